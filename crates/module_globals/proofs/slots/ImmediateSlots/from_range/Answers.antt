use Rattle.std.proofs.Common.{◌<◌, ◌^◌, arith}
use Rattle.module_globals.proofs.Bits.{in_range}
use Rattle.module_globals.proofs.slots.ImmediateSlots.from_range.Goals as goal

pub returns : goal.returns
returns c = λ k lt.
    let fits : c.below-before.result < 2 ^ 64 = c.below-before.type_inv in
    in_range c.args.offset c.args.size_bytes c.below-behind.result c.below-before.result k (omega arith) fits lt (rw (c.from.ensures, c.from-2.ensures) at (c.below-behind.ensures k lt)) (rw c.from-3.ensures at (c.below-before.ensures k lt))
