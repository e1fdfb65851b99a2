use Rattle.function_interface.specs.Items.{EachBelow}
use Rattle.spec_statements.specs.judged.Interfaces.{LocalOK}
use Rattle.function_statement_checks.specs.View.{context_view}
use Rattle.function_interface.proofs.locals.check_locals.Given as goal

-- the function may have the variables before
abbrev pub invariant-loop-index : goal.invariant-loop-index
invariant-loop-index l = EachBelow (LocalOK (context_view l.context)) (context_view l.context).f.locals l.index
