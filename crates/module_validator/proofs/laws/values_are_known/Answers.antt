use Rattle.std.proofs.Common.{sym, subst}
use Rattle.module_constants.specs.Known.{module_in}
use Rattle.module_context.specs.AcceptedTypes.{AreAccepted}
use Rattle.module_steps.proofs.ValueLemmas.{known_in}
use Rattle.module_validator.proofs.laws.values_are_known.Goals as goal

pub returns : goal.returns
returns c = λ s resolved info context ok told kinds forms given.
    known_in context s.capabilities resolved ok.handles kinds info.const_expression_types.items told.expressions forms
    (subst (AreAccepted s.capabilities resolved (module_in context).types) (sym given) told.types)
