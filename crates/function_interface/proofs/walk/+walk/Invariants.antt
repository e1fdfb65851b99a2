use Rattle.std.proofs.Common.{◌≡◌, drop, map}
use Rattle.ir_blocks.specs.found.View.{statements_view, case_view, cases_of}
use Rattle.function_interface.specs.Left.{left_in, left_in_cases}
use Rattle.function_interface.proofs.walk.+walk.Given as goal

-- what the rest leaves of what is left is what the whole leaves
abbrev pub invariant-left_in-loop-statement : goal.invariant-left_in-loop-statement
invariant-left_in-loop-statement g l =
    left_in (g.R.RunBy.runs l.rule) l.left.0 (statements_view (drop l.statement-index l.statement-items)) ≡ left_in (g.R.RunBy.runs l.rule) l.fn.stages.0 (statements_view l.statement-items)

abbrev pub invariant-left_in_cases-loop-case : goal.invariant-left_in_cases-loop-case
invariant-left_in_cases-loop-case g l =
    left_in_cases (g.R.RunBy.runs l.rule) l.left.0 (cases_of (map case_view (drop l.case-index l.cases))) ≡ left_in_cases (g.R.RunBy.runs l.rule) l.fn.stages.0 (cases_of (map case_view l.cases))
