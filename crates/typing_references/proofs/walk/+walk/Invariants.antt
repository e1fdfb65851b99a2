use Rattle.std.proofs.Common.{◌≡◌, drop, map}
use Rattle.ir_blocks.specs.found.View.{statements_view, case_view, cases_of}
use Rattle.typing_references.specs.First.{first_in, first_in_cases}
use Rattle.typing_references.proofs.walk.+walk.Given as goal

-- the first match of the rest is the first of all
abbrev pub invariant-first_in-loop-statement : goal.invariant-first_in-loop-statement
invariant-first_in-loop-statement g l =
    first_in (g.T.StatementLook.look l.looked) (statements_view (drop l.statement-index l.statement-items)) ≡ first_in (g.T.StatementLook.look l.looked) (statements_view l.statement-items)

abbrev pub invariant-first_in_cases-loop-case : goal.invariant-first_in_cases-loop-case
invariant-first_in_cases-loop-case g l =
    first_in_cases (g.T.StatementLook.look l.looked) (cases_of (map case_view (drop l.case-index l.cases))) ≡ first_in_cases (g.T.StatementLook.look l.looked) (cases_of (map case_view l.cases))
