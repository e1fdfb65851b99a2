use Rattle.check_paths.proofs.Leads.{all_lead}
use Rattle.check_paths.proofs.path.paths_lead.Goals as goal

pub returns : goal.returns
returns c = all_lead
