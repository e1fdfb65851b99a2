use Rattle.module_globals.proofs.Bits.{unions_agree as law}
use Rattle.module_globals.proofs.slot_laws.unions_agree.Goals as goal

pub returns : goal.returns
returns c = law
