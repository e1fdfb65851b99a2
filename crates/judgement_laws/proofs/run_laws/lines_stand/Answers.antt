use Rattle.judgement_laws.proofs.Lines.{lines_stand}
use Rattle.judgement_laws.proofs.run_laws.lines_stand.Goals as goal

pub returns : goal.returns
returns c = lines_stand
