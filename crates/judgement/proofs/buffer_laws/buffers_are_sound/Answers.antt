use Rattle.judgement.proofs.Buffers.{buffers_are_sound}
use Rattle.judgement.proofs.buffer_laws.buffers_are_sound.Goals as goal

pub returns : goal.returns
returns c = buffers_are_sound
