use Rattle.shader_check.proofs.Returns.{returns_dont_show_lem}
use Rattle.shader_check.proofs.laws.returns_dont_show.Goals as goal

pub returns : goal.returns
returns c = returns_dont_show_lem
