use Rattle.std.proofs.Common.{true}
use Rattle.shader_check.proofs.Fresh.{answers_are_alike}
use Rattle.shader_check.proofs.laws.validate_resolved_overrides_answers_as_fresh.Goals as goal

pub returns : goal.returns
returns c = answers_are_alike true
