use Rattle.judgement.proofs.Capable.{module_more}
use Rattle.judgement.proofs.module_laws.more_capabilities.Goals as goal

pub returns : goal.returns
returns c = module_more
