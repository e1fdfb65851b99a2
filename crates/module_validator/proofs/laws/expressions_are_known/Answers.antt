use Rattle.module_validator.proofs.Contexts.{expressions_known}
use Rattle.module_validator.proofs.laws.expressions_are_known.Goals as goal

pub returns : goal.returns
returns c = expressions_known
