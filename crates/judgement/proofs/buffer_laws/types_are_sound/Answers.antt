use Rattle.judgement.proofs.Buffers.{types_are_sound}
use Rattle.judgement.proofs.buffer_laws.types_are_sound.Goals as goal

pub returns : goal.returns
returns c = types_are_sound
