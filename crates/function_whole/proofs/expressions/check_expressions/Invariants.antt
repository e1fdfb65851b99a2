use Rattle.std.proofs.Common.{map}
use Rattle.function_whole.specs.Judged.{AcceptedBelow}
use Rattle.function_interface.specs.Question.{question}
use Rattle.function_statement_checks.specs.View.{context_view}
use Rattle.function_whole.proofs.expressions.check_expressions.Given as goal

-- the expressions before are accepted
abbrev pub invariant-loop-index : goal.invariant-loop-index
invariant-loop-index g l =
    AcceptedBelow (g.L.Lower.reading l.lower (question (context_view l.context).m (context_view l.context).f (map (g.L.Lower.summary l.lower) l.callees) (map (g.L.Lower.noted l.lower) l.callees)))
    (context_view l.context) l.index l.stages
