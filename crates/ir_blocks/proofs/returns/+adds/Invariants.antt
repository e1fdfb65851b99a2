use Rattle.std.proofs.Common.{◌≡◌, map, take}
use Rattle.ir_blocks.specs.judged.Tails.{finished_case}
use Rattle.ir_blocks.specs.found.TailSpans.{finished_case_body}
use Rattle.ir_blocks.specs.found.View.{case_view, case_block_spans}
use Rattle.ir_blocks.proofs.returns.+adds.Given as goal

abbrev pub invariant-add_to_cases-loop-index : goal.invariant-add_to_cases-loop-index
invariant-add_to_cases-loop-index l =
    goal.unvisited-add_to_cases-loop-index l × ((map case_view (take l.index l.cases.items) ≡ map (λ c. finished_case (case_view c)) (take l.index l.fn.cases.items))
    × (map case_block_spans (take l.index l.cases.items) ≡ map (λ c. finished_case_body (case_view c) (case_block_spans c)) (take l.index l.fn.cases.items)))
