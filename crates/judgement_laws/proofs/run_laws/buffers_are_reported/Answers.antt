use Rattle.judgement_laws.proofs.Lines.{buffers_are_reported}
use Rattle.judgement_laws.proofs.run_laws.buffers_are_reported.Goals as goal

pub returns : goal.returns
returns c = buffers_are_reported
