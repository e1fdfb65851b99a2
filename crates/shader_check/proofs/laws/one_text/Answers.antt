use Rattle.shader_check.proofs.Once.{one_text_lem}
use Rattle.shader_check.proofs.laws.one_text.Goals as goal

pub returns : goal.returns
returns c = one_text_lem
