use Rattle.module_globals.proofs.Bits.{contains_by_slots as law}
use Rattle.module_globals.proofs.slot_laws.contains_by_slots.Goals as goal

pub returns : goal.returns
returns c = law
