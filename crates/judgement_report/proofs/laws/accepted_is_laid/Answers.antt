use Rattle.judgement.specs.judged.ModuleSteps.{layout}
use Rattle.judgement_report.proofs.laws.accepted_is_laid.Goals as goal

pub returns : goal.returns
returns c = λ s resolved m ok handle within. (ok.steps layout).each handle within
