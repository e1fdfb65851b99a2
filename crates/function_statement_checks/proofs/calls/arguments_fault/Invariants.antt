use Rattle.ir_items.specs.found.View.{function_view}
use Rattle.function_statement_checks.specs.Calls.{PassesBelow}
use Rattle.function_statement_checks.proofs.calls.arguments_fault.Given as goal

-- what is passed before fits
abbrev pub invariant-loop-place : goal.invariant-loop-place
invariant-loop-place g l = PassesBelow (g.C.StatementContext.seen l.context) (function_view l.callee) l.arguments l.place
