use Rattle.std.proofs.Common.{◌≡◌, drop, map}
use Rattle.ir_blocks.specs.found.View.{statements_view, case_view, cases_of}
use Rattle.ir_items.specs.found.View.{function_view}
use Rattle.function_strict_scope.proofs.Walks.{Leads, LeadsCases}
use Rattle.function_strict_scope.specs.Live.{Follows}
use Rattle.function_strict_scope.proofs.walk.+walk.Given as goal

-- the rest leads to the whole
abbrev pub invariant-check_block-loop-index : goal.invariant-check_block-loop-index
invariant-check_block-loop-index l =
    Leads (function_view l.function) l.fn.sure (statements_view l.statement-items) l.index l.sure l.left (statements_view (drop l.index l.statement-items))
    × Follows (function_view l.function) l.live l.sure

abbrev pub invariant-check_cases-loop-number : goal.invariant-check_cases-loop-number
invariant-check_cases-loop-number l =
    (l.sure ≡ l.fn.sure)
    × LeadsCases (function_view l.function) l.fn.sure (cases_of (map case_view l.cases)) l.number l.continues (cases_of (map case_view (drop l.number l.cases)))
    × Follows (function_view l.function) l.live l.sure
