use Rattle.std.proofs.Common.{[], refl}
use Rattle.ir_sets.proofs.Members.{no_members, words_of_none}
use Rattle.ir_sets.proofs.handle_set.HandleSet.new.Goals as goal

pub invariant_of-result : goal.invariant_of-result
invariant_of-result g c = rw c.new.ensures.items words_of_none

pub returns : goal.returns
returns g c = rw c.new.ensures.items (no_members [] refl)
