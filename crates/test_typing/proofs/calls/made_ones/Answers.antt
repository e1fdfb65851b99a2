use Rattle.std.proofs.Common.{refl}
use Rattle.typing_layout.proofs.Powers.{sixteen}
use Rattle.test_typing.proofs.calls.made_ones.Goals as goal

pub from_width-requires : goal.from_width-requires
from_width-requires c = (1, refl)

pub invariant_of-eq : goal.invariant_of-eq
invariant_of-eq c = sixteen
