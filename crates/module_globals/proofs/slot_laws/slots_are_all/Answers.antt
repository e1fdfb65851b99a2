use Rattle.module_globals.proofs.Bits.{slots_are_all as law}
use Rattle.module_globals.proofs.slot_laws.slots_are_all.Goals as goal

pub returns : goal.returns
returns c = law
