use Rattle.function_interface.proofs.InterfaceRefuted.{first_refuted, local_refuted}
use Rattle.function_interface.proofs.locals.refused_local.Goals as goal

pub returns-in-Err : goal.returns-in-Err
returns-in-Err k = λ c first. first_refuted _ _ (λ l wrong ok. local_refuted c l k.args.source wrong.1 ok) c.f.locals k.args.handle first
