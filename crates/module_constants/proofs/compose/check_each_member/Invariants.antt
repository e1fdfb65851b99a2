-- The components so far have the types of the members at their indices.
use Rattle.std.proofs.Common.{map}
use Rattle.ir_types.specs.judged.Plain.{member_view}
use Rattle.module_constants.specs.Composed.{FitBelow, IsMember, forms_of}
use Rattle.typing_forms.specs.judged.Resolutions.{types_view}
use Rattle.module_constants.proofs.compose.check_each_member.Given as goal

abbrev pub invariant-loop-place : goal.invariant-loop-place
invariant-loop-place l = FitBelow (IsMember (types_view l.types) (map member_view l.members)) (forms_of l.components) l.place
