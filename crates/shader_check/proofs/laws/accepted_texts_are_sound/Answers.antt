use Rattle.shader_check.proofs.Promises.{accepted_texts_are_sound_lem}
use Rattle.shader_check.proofs.laws.accepted_texts_are_sound.Goals as goal

pub returns : goal.returns
returns c = accepted_texts_are_sound_lem
