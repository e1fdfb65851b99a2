use Rattle.std.proofs.Common.{◌≡◌, rules, sym, subst}
use Rattle.ir_blocks.specs.judged.Places.{OccursAt}
use Rattle.ir_blocks.specs.judged.Plain.{PlainStatement}
use Rattle.ir_blocks.specs.found.View.{block_view}
use Rattle.ir_places.proofs.TrailLaws.{placed, placed_then}
use Rattle.ir_types.specs.declared.refusal.Refusal.TheVariants as refusal
use Rattle.function_statements.proofs.Places.{all_fine, one_wrong}
use Rattle.function_statements.specs.Bodies.{IsWrong}
use Rattle.function_statements.specs.Faults.{IsBodyFaultAt, IsBodyRefusalAt}
use Rattle.function_statements.specs.declared.error.StatementError.TheVariants.{Fault}
use Rattle.function_statements.proofs.body.validate_statements.Goals as goal

pub returns-in-Ok : goal.returns-in-Ok
returns-in-Ok g c = all_fine (g.C.StatementContext.seen c.args.context.now) c.requires.arities (block_view c.body.result.now) c.body.ensures c.in-Ok.ensures

pub returns-in-Err-Memory : goal.returns-in-Err-Memory
returns-in-Err-Memory g c = placed c.check_each.new.trail (λ p. Unit {0}) tt

pub returns-in-Err-Fault : goal.returns-in-Err-Fault
returns-in-Err-Fault g c =
    let x = g.C.StatementContext.seen c.args.context.now in
    let body = block_view c.body.result.now in
    let is : c.in-Err-Fault.field-0 ≡ Fault c.in-Err-Fault.error = search rules in
    placed_then c.check_each.new.trail (λ p. (u : PlainStatement) × OccursAt body p u × IsWrong x c.in-Err-Fault.field-0 u) (IsBodyRefusalAt x (refusal.Fault c.new.result))
    (λ p wrong. (
      subst (λ e. IsBodyFaultAt x e p) (sym c.new.ensures.error)
          (one_wrong x c.in-Err-Fault.error body c.body.ensures p (subst (λ r. (u : PlainStatement) × OccursAt body p u × IsWrong x r u) is wrong)),
      c.new.ensures.spans,
    ))
    c.in-Err-Fault.ensures
