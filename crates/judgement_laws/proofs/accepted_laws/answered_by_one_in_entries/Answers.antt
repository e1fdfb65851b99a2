use Rattle.judgement_laws.proofs.Answers.{answered_in_entries}
use Rattle.judgement_laws.proofs.accepted_laws.answered_by_one_in_entries.Goals as goal

pub returns : goal.returns
returns c = answered_in_entries
