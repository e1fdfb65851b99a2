use Rattle.std.proofs.Common.{lit<}
use Rattle.bitflags.proofs.BitFacts.{without-gone}
use Rattle.test_kinds.proofs.uses.drop_blocks.Goals as goal

pub returns : goal.returns
returns c = rw (c.remove.ensures tt) (without-gone 8 c.args.checks.now.0 2 (lit< tt))
