use Rattle.std.proofs.Common.{false}
use Rattle.shader_check.proofs.Fresh.{answers_are_alike}
use Rattle.shader_check.proofs.laws.validate_answers_as_fresh.Goals as goal

pub returns : goal.returns
returns c = answers_are_alike false
