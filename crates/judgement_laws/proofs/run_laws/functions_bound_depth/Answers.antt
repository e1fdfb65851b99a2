use Rattle.judgement_laws.proofs.Sound.{functions_bound_depth}
use Rattle.judgement_laws.proofs.run_laws.functions_bound_depth.Goals as goal

pub returns : goal.returns
returns c = functions_bound_depth
