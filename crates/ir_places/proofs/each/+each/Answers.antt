use Rattle.std.proofs.Common.{rules, refl, subst}
use Rattle.ir_blocks.specs.found.View.{block_view, statement_view}
use Rattle.ir_places.proofs.StandLaws.{stands_here, stands_in_block, stands_in_case}
use Rattle.ir_places.proofs.TrailLaws.{block_is, item_at, stepped_out}
use Rattle.ir_places.specs.Paths.{part_view}
use Rattle.ir_places.specs.Stands.{StandsAt, StandsInPart}
use Rattle.ir_places.specs.Each.{AllAre}
use Rattle.ir_places.proofs.EachLaws.{none_left, case_more}
use Rattle.ir_places.proofs.each.+each.Goals as goal

pub check_block-returns : goal.check_block-returns
check_block-returns g t c =
    subst (AllAre (g.T.StatementRule.meets c.args.rule.now)) (block_is c.args.block.now c.as_slice-statement-items.result.now c.as_slice-statement-items.ensures)
    (none_left (g.T.StatementRule.meets c.args.rule.now) c.as_slice-statement-items.result.now c.loop-index.index (search rules) c.loop-index.invariant)

pub check_block-returns-in-Err : goal.check_block-returns-in-Err
check_block-returns-in-Err g t c =
    stands_in_block c.check_statement.new.trail (g.T.StatementRule.wrong c.args.rule.now c.in-Err.error) c.args.block.now c.as_slice-statement-items.result.now c.as_slice-statement-items.ensures c.loop-index.index c.statement-item.result
    (item_at c.as_slice-statement-items.result.now c.loop-index.index c.statement-item.result (search rules) c.statement-item.is) c.in-Err.ensures

pub check_part-returns-in-Err : goal.check_part-returns-in-Err
check_part-returns-in-Err g t c =
    stepped_out c.inside.new.self c.check_block.new.trail (record { index = c.args.index; part = c.args.part }) (StandsAt (g.T.StatementRule.wrong c.args.rule.now c.in-Err.error) (block_view c.args.block.now))
    (StandsInPart (g.T.StatementRule.wrong c.args.rule.now c.in-Err.error) c.args.index (part_view c.args.part) (block_view c.args.block.now))
    c.inside.ensures c.in-Err.ensures (λ q h. (q, refl, h))

pub check_cases-loop-number-preserved : goal.check_cases-loop-number-preserved
check_cases-loop-number-preserved g t c = λ rest. c.loop-number.invariant (case_more (g.T.StatementRule.meets c.args.rule.now) c.args.cases.now c.loop-number.number c.index-cases-number.result (search rules) c.index-cases-number.is c.in-Ok.ensures rest)

pub check_cases-returns-in-Err : goal.check_cases-returns-in-Err
check_cases-returns-in-Err g t c =
    stands_in_case c.check_part.new.trail (g.T.StatementRule.wrong c.args.rule.now c.in-Err.error) c.args.index c.args.cases.now c.loop-number.number c.index-cases-number.result
    (item_at c.args.cases.now c.loop-number.number c.index-cases-number.result (search rules) c.index-cases-number.is) c.in-Err.ensures

pub check_statement-returns-in-Err : goal.check_statement-returns-in-Err
check_statement-returns-in-Err g t c =
    stands_here c.stand.new.self (g.T.StatementRule.wrong c.args.rule.now c.in-Err.error) c.args.index (statement_view c.args.statement.now) c.stand.ensures.place c.in-Err.ensures
