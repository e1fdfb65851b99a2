use Rattle.judgement_laws.proofs.Chains.{runs_sample_pairs}
use Rattle.judgement_laws.proofs.run_laws.runs_sample_pairs.Goals as goal

pub returns : goal.returns
returns c = runs_sample_pairs
