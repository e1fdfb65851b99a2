use Rattle.std.proofs.Common.{◌≡◌, ◌+◌, ◌*◌, drop, map, ◌++◌, option_map}
use Rattle.serde_json.specs.View.{items_view}
use Rattle.ir_blocks.specs.found.View.{statement_view, case_view}
use Rattle.document_forms.specs.found.Decide.{each}
use Rattle.document_reader.specs.found.Statements.{statement_at, case_with, block_at}
use Rattle.document_reader.proofs.statements.+statements.Given as goal

abbrev pub decreases-statement : goal.decreases-statement
decreases-statement l = 7 * l.depth

abbrev pub decreases-block : goal.decreases-block
decreases-block l = 7 * l.depth + 1

abbrev pub decreases-block_inside : goal.decreases-block_inside
decreases-block_inside l = 7 * l.depth + 2

abbrev pub decreases-switch_case : goal.decreases-switch_case
decreases-switch_case l = 7 * l.depth + 3

abbrev pub decreases-switch_cases : goal.decreases-switch_cases
decreases-switch_cases l = 7 * l.depth + 4

abbrev pub decreases-switch : goal.decreases-switch
decreases-switch l = 7 * l.depth + 5

abbrev pub decreases-if_statement : goal.decreases-if_statement
decreases-if_statement l = 7 * l.depth + 5

abbrev pub decreases-loop_statement : goal.decreases-loop_statement
decreases-loop_statement l = 7 * l.depth + 5

abbrev pub decreases-nested : goal.decreases-nested
decreases-nested l = 7 * l.depth + 5

abbrev pub decreases-statement_of : goal.decreases-statement_of
decreases-statement_of l = 7 * l.depth + 6

-- the statements decoded so far, followed by those of the rest, are the statements of the whole
abbrev pub invariant-block-loop-item : goal.invariant-block-loop-item
invariant-block-loop-item l =
    option_map (λ xs. map statement_view l.found.items ++ xs) (each (statement_at l.depth) (items_view (drop l.item-index l.item-items))) ≡ each (statement_at l.depth) (items_view l.item-items)

abbrev pub invariant-switch_cases-loop-item : goal.invariant-switch_cases-loop-item
invariant-switch_cases-loop-item l =
    option_map (λ xs. map case_view l.found.items ++ xs) (each (case_with (block_at l.depth)) (items_view (drop l.item-index l.item-items))) ≡ each (case_with (block_at l.depth)) (items_view l.item-items)
