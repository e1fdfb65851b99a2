use Rattle.judgement_laws.proofs.Local.{reports_are_local}
use Rattle.judgement_laws.proofs.run_laws.reports_are_local.Goals as goal

pub returns : goal.returns
returns c = reports_are_local
