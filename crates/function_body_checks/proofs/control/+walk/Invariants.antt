use Rattle.std.proofs.Common.{drop, map}
use Rattle.ir_blocks.specs.found.View.{statements_view, case_view, cases_of}
use Rattle.function_body_checks.specs.Allowed.{view_of, AllLeave, CasesLeave}
use Rattle.function_body_checks.proofs.control.+walk.Given as goal

-- the rest leads to the whole
abbrev pub invariant-check_block-loop-index : goal.invariant-check_block-loop-index
invariant-check_block-loop-index l = AllLeave (view_of l.allowed) (statements_view (drop l.index l.statement-items)) → AllLeave (view_of l.allowed) (statements_view l.statement-items)

abbrev pub invariant-check_cases-loop-number : goal.invariant-check_cases-loop-number
invariant-check_cases-loop-number l = CasesLeave (view_of l.allowed) (cases_of (map case_view (drop l.number l.cases))) → CasesLeave (view_of l.allowed) (cases_of (map case_view l.cases))
