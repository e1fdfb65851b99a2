use Rattle.std.proofs.Common.{◌≡◌, map, take}
use Rattle.ir_blocks.specs.found.Room.{HasRoomInCases}
use Rattle.ir_blocks.specs.found.View.{case_view, case_block_spans}
use Rattle.ir_blocks.proofs.returns.+reserves.Given as goal

abbrev pub invariant-reserve_cases-loop-index : goal.invariant-reserve_cases-loop-index
invariant-reserve_cases-loop-index l =
    goal.unvisited-reserve_cases-loop-index l × ((map case_view l.cases.items ≡ map case_view l.fn.cases.items) × ((map case_block_spans l.cases.items ≡ map case_block_spans l.fn.cases.items) × HasRoomInCases (take l.index l.cases.items)))
