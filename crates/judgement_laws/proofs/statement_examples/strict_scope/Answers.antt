use Rattle.std.proofs.Common.{inr, ⊎_elim, true≢false, sym, refl, Some, None, arith}
use Rattle.ir_blocks.specs.judged.Places.{here, condition}
use Rattle.ir_blocks.specs.judged.Plain.{emit, if_, loop, continue, PlainBlock, stop}
use Rattle.ir_items.specs.judged.Plain.{PlainFunction}
use Rattle.spec_statements.proofs.ScopeLaws.{none_held}
use Rattle.spec_statements.proofs.StrictLaws.{strict_by_walk_lem}
use Rattle.judgement_laws.specs.found.Worked.{one, two, over_truths}
use Rattle.judgement_laws.proofs.statement_examples.strict_scope.Goals as goal

abbrev turning : PlainBlock → PlainFunction
turning body = over_truths (one (loop body stop (Some 1)))

pub returns-clause-behind_a_continue : goal.returns-clause-behind_a_continue
returns-clause-behind_a_continue c = λ scope.
    ⊎_elim (λ pre. true≢false (sym pre)) (λ held. none_held 1 held) ((strict_by_walk_lem (turning (two (if_ 0 (one continue) stop) (emit 1 2))) condition 1).0 scope)

pub returns-clause-before_a_continue : goal.returns-clause-before_a_continue
returns-clause-before_a_continue c = (strict_by_walk_lem (turning (two (emit 1 2) (if_ 0 (one continue) stop))) condition 1).1 (inr (0, omega arith, refl))

pub returns-clause-behind_a_loop_inside : goal.returns-clause-behind_a_loop_inside
returns-clause-behind_a_loop_inside c = (strict_by_walk_lem (turning (two (loop (one continue) stop None) (emit 1 2))) condition 1).1 (inr (0, omega arith, refl))

pub returns-clause-operand_not_emitted : goal.returns-clause-operand_not_emitted
returns-clause-operand_not_emitted c = λ scope. ⊎_elim (λ pre. true≢false (sym pre)) (λ held. none_held 1 held) ((strict_by_walk_lem (over_truths (one (emit 2 3))) here 1).0 scope)
