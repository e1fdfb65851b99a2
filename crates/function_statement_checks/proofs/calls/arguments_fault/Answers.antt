use Rattle.std.proofs.Common.{arith}
use Rattle.function_statement_checks.proofs.CallLemmas.{pass_more, pass_all}
use Rattle.function_statement_checks.proofs.calls.arguments_fault.Goals as goal

pub loop-place-init : goal.loop-place-init
loop-place-init g c = record { each = λ k lt. absurd (omega (arith, lt)) }

pub loop-place-preserved : goal.loop-place-preserved
loop-place-preserved g c = pass_more _ _ _ _ c.loop-place.invariant c.in_default.ensures.none

pub returns-clause-none : goal.returns-clause-none
returns-clause-none g c = pass_all _ _ _ c.loop-place.place c.loop-place.invariant (omega arith)
