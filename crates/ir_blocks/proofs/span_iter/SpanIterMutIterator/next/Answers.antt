use Rattle.ir_blocks.proofs.SpanIterLemmas.{ended}
use Rattle.ir_blocks.proofs.span_iter.SpanIterMutIterator.next.Goals as goal

pub returns-in_err-span-clause-steps : goal.returns-in_err-span-clause-steps
returns-in_err-span-clause-steps c = ended c.args.self.now (record { statements = c.args.self.now.statements; spans = c.next.new.self }) _ c.from_residual.ensures c.in_err-span.ensures.steps.0 c.in_err-span.ensures.steps.1
