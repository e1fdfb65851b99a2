use Rattle.function_entries.proofs.Refuted as refuted
use Rattle.function_entries.proofs.laws.one_implied.Goals as goal

pub returns : goal.returns
returns c = refuted.one_implied
