use Rattle.shader_check.proofs.Kept.{reported}
use Rattle.shader_check.proofs.laws.validated_is_reported.Goals as goal

pub returns : goal.returns
returns c = reported
