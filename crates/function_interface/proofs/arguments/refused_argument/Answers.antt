use Rattle.function_interface.proofs.InterfaceRefuted.{first_refuted, argument_refuted}
use Rattle.function_interface.proofs.arguments.refused_argument.Goals as goal

pub returns-in-Err : goal.returns-in-Err
returns-in-Err k = λ c entry first. first_refuted _ _ (λ a wrong ok. argument_refuted c.m entry a k.args.fault wrong.1 ok) c.f.arguments k.args.index first
