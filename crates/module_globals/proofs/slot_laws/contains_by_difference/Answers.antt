use Rattle.module_globals.proofs.Bits.{contains_by_difference as law}
use Rattle.module_globals.proofs.slot_laws.contains_by_difference.Goals as goal

pub returns : goal.returns
returns c = law
