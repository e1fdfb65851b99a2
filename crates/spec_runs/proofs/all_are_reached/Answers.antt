use Rattle.spec_runs.proofs.Reached.{all_are_reached}
use Rattle.spec_runs.proofs.all_are_reached.Goals as goal

pub returns : goal.returns
returns c = all_are_reached
