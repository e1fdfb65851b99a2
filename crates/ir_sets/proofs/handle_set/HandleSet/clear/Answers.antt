use Rattle.std.proofs.Common.{[], refl}
use Rattle.ir_sets.proofs.Members.{no_members, words_of_none}
use Rattle.ir_sets.proofs.handle_set.HandleSet.clear.Goals as goal

pub invariant_of-self : goal.invariant_of-self
invariant_of-self g c = rw c.clear.ensures.items words_of_none

pub returns : goal.returns
returns g c = rw c.clear.ensures.items (no_members [] refl)
