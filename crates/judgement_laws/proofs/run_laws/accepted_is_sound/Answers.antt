use Rattle.judgement_laws.proofs.Sound.{accepted_is_sound}
use Rattle.judgement_laws.proofs.run_laws.accepted_is_sound.Goals as goal

pub returns : goal.returns
returns c = accepted_is_sound
