use Rattle.std.proofs.Common.{rules}
use Rattle.shader_check_c.proofs.Answered.{answered}
use Rattle.shader_check_c.proofs.answer.answer_on.Goals as goal

pub returns-in-Ok : goal.returns-in-Ok
returns-in-Ok c = answered _ _ _ _ _ _ _ (search rules) (search rules) (search rules) c.in-Ok.ensures.ok
