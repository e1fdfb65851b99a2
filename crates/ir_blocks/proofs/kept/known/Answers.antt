use Rattle.std.proofs.Common.{sym, ◌∙◌}
use Rattle.ir_blocks.proofs.PaddedLemmas.{known_without, known_to}
use Rattle.ir_blocks.proofs.kept.known.Goals as goal

pub returns-then-is_defined : goal.returns-then-is_defined
returns-then-is_defined c = known_to c.args.spans.now c.loop-count.count _ c.loop-count-test.true c.loop-count.invariant.0 (sym c.is_defined.ensures ∙ c.if-is_defined.true) c.loop-count.invariant.1

pub loop-count-preserved : goal.loop-count-preserved
loop-count-preserved c = known_without c.args.spans.now c.loop-count.count _ c.loop-count-test.true c.loop-count.invariant.0 (sym c.is_defined.ensures ∙ c.if-is_defined.false) c.loop-count.invariant.1
