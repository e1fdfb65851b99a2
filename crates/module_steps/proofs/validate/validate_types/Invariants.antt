-- The types so far are valid, and there is a `TypeInfo` for each.
use Rattle.typing_forms.specs.judged.Resolutions.{types_view}
use Rattle.module_context.specs.AcceptedTypes.{AreAcceptedBelow}
use Rattle.module_steps.proofs.validate.validate_types.Given as goal

abbrev pub invariant-loop-place : goal.invariant-loop-place
invariant-loop-place l = AreAcceptedBelow l.capabilities l.overrides_resolved (types_view l.types) l.infos.items l.place
