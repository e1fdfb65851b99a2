use Rattle.std.proofs.Common.{ap, ◌∙◌}
use Rattle.ir_blocks.specs.judged.Tails.{completed}
use Rattle.ir_blocks.specs.found.TailSpans.{completed_spans}
use Rattle.ir_blocks.proofs.InStepLaws.{always_in_step}
use Rattle.ir_blocks.proofs.SpanLaws.{completed_is, spans_completed_is}
use Rattle.ir_blocks.proofs.returns.ensure_block_returns.Goals as goal

pub returns-clause-ok : goal.returns-clause-ok
returns-clause-ok c = completed_is _ _ (c.put_returns.ensures.statements ∙ ap completed c.reserve_returns.ensures.statements)

pub returns-clause-spans : goal.returns-clause-spans
returns-clause-spans c =
    let bodies = c.reserve_returns.ensures.statements in
    let kept = c.reserve_returns.ensures.spans in
    spans_completed_is _ _ _ _ (c.put_returns.ensures.statements ∙ ap completed bodies) (c.put_returns.ensures.spans ∙ (λ i. completed_spans (bodies i) (kept i))) (always_in_step _).1
