use Rattle.std.proofs.Common.{◌≡◌, drop, map}
use Rattle.ir_blocks.specs.found.View.{statements_view, case_view, cases_of}
use Rattle.ir_items.specs.found.View.{function_view}
use Rattle.function_body_checks.proofs.Walks.{Leads, LeadsCases}
use Rattle.function_body_checks.proofs.scope.+walk.Given as goal

-- the rest leads to the whole
abbrev pub invariant-check_block-loop-index : goal.invariant-check_block-loop-index
invariant-check_block-loop-index l =
    Leads (function_view l.outline.function.now) l.outline.asked l.fn.carried.scope l.fn.carried.answered (statements_view l.statement-items) l.index l.carried.scope l.carried.answered (statements_view (drop l.index l.statement-items))

abbrev pub invariant-check_cases-loop-number : goal.invariant-check_cases-loop-number
invariant-check_cases-loop-number l =
    (l.carried.scope ≡ l.fn.carried.scope)
    × LeadsCases (function_view l.outline.function.now) l.outline.asked l.fn.carried.scope l.fn.carried.answered (cases_of (map case_view l.cases)) l.number l.carried.answered (cases_of (map case_view (drop l.number l.cases)))
