use Rattle.function_interface.specs.Items.{EachBelow}
use Rattle.spec_statements.specs.judged.Interfaces.{ArgumentOK}
use Rattle.function_statement_checks.specs.View.{context_view}
use Rattle.function_interface.proofs.arguments.check_arguments.Given as goal

-- the function may be given the arguments before
abbrev pub invariant-loop-index : goal.invariant-loop-index
invariant-loop-index l = EachBelow (ArgumentOK (context_view l.context).m l.entry) (context_view l.context).f.arguments l.index
