use Rattle.std.proofs.Common.{Err, refl, subst}
use Rattle.typing_errors.specs.Answers.{IsAnswer}
use Rattle.typing_infos.proofs.types.refused_at.Goals as goal

pub returns-in-Fault : goal.returns-in-Fault
returns-in-Fault c = λ context xs h. (refl, subst (λ r. IsAnswer context xs c.args.handle (Err r)) c.in-Fault.is h)
