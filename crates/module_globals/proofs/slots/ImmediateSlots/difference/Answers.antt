use Rattle.std.proofs.Common.{◌<◌, ◌^◌, rules}
use Rattle.module_globals.proofs.Bits.{without}
use Rattle.module_globals.proofs.slots.ImmediateSlots.difference.Goals as goal

pub returns : goal.returns
returns c = λ k lt. let fits : c.args.other.0 < 2 ^ 64 = search rules in without c.args.self.0 c.args.other.0 k fits lt
