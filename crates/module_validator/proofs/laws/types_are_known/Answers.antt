use Rattle.module_validator.proofs.Contexts.{types_known}
use Rattle.module_validator.proofs.laws.types_are_known.Goals as goal

pub returns : goal.returns
returns c = types_known
