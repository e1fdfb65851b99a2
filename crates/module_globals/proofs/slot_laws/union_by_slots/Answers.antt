use Rattle.module_globals.proofs.Bits.{union_by_slots as law}
use Rattle.module_globals.proofs.slot_laws.union_by_slots.Goals as goal

pub returns : goal.returns
returns c = law
