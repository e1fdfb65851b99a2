use Rattle.ir_blocks.proofs.SpanLaws.{spans_completed}
use Rattle.ir_blocks.proofs.laws.spans_completed_by_tails.Goals as goal

pub returns : goal.returns
returns c = spans_completed
