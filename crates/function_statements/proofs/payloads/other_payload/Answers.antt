use Rattle.ir_blocks.specs.found.View.{block_view}
use Rattle.function_statements.proofs.PayloadLemmas.{other_told}
use Rattle.function_statements.proofs.payloads.other_payload.Goals as goal

pub returns : goal.returns
returns g c = other_told c.placed_in.new.trail (g.C.StatementContext.seen c.args.context.now) c.args.held (block_view c.body.result.now) c.placed_in.result c.body.ensures c.placed_in.ensures
