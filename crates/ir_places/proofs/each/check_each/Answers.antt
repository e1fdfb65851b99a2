use Rattle.ir_blocks.specs.found.View.{block_view}
use Rattle.ir_places.proofs.EachLaws.{is_at}
use Rattle.ir_places.proofs.each.check_each.Goals as goal

pub returns-in-Ok : goal.returns-in-Ok
returns-in-Ok g c = λ p s stands. is_at (g.T.StatementRule.meets c.args.rule.now) p (block_view c.args.block.now) c.in-Ok.ensures s stands
