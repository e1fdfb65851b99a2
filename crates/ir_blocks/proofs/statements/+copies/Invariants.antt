use Rattle.std.proofs.Common.{◌≡◌, map, take}
use Rattle.ir_blocks.specs.found.View.{statement_view, case_view, statement_spans, case_block_spans}
use Rattle.ir_blocks.proofs.statements.+copies.Given as goal

-- the copies so far have the views of the statements before the present one, and so have their nested spans
abbrev pub invariant-Block::clone-loop-statement : goal.invariant-Block::clone-loop-statement
invariant-Block::clone-loop-statement l = (map statement_view l.body.items ≡ map statement_view (take l.statement-index l.statement-items)) × (map statement_spans l.body.items ≡ map statement_spans (take l.statement-index l.statement-items))

-- and the same for cases
abbrev pub invariant-clone_cases-loop-case : goal.invariant-clone_cases-loop-case
invariant-clone_cases-loop-case l = (map case_view l.copies.items ≡ map case_view (take l.case-index l.cases)) × (map case_block_spans l.copies.items ≡ map case_block_spans (take l.case-index l.cases))
