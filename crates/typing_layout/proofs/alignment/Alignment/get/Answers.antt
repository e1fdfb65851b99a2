use Rattle.std.proofs.Common.{arith}
use Rattle.typing_layout.proofs.Powers.{power_bound, power_positive}
use Rattle.typing_layout.proofs.alignment.Alignment.get.Goals as goal

pub returns-clause-in_range : goal.returns-clause-in_range
returns-clause-in_range c = (power_positive c.self.inside.bytes c.self.invariant, power_bound c.self.inside.bytes c.self.invariant (omega arith))
