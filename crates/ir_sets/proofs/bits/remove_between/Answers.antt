use Rattle.std.proofs.Common.{false, ◌/◌, ◌<◌, arith, length-set, ◌∙◌}
use Rattle.ir_sets.proofs.Words.{taken_part, becomes_more}
use Rattle.ir_sets.specs.Bits.{has_bit}
use Rattle.ir_sets.proofs.bits.remove_between.Goals as goal

pub loop-place-preserved : goal.loop-place-preserved
loop-place-preserved c =
    let place = c.loop-place.place in
    let next = c.min-next.result in
    let words = c.loop-place.words in
    let before : place < next = omega (arith, c.min-next.ensures) in
    let part = taken_part words place next before (omega (arith, c.min-next.ensures)) (omega (arith, c.loop-place.invariant.2)) c.ones_between.result c.ones_between.ensures in
    (omega (arith, c.min-next.ensures), omega (arith, c.min-next.ensures), length-set words (place / 64) _ ∙ c.loop-place.invariant.2, becomes_more false (has_bit c.args.words.now) (has_bit words) _ c.args.from place next c.loop-place.invariant.0 (omega arith) c.loop-place.invariant.3 part)
