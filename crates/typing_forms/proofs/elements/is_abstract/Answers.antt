use Rattle.std.proofs.Common.{subst}
use Rattle.ir_types.specs.judged.Plain.{inner_view}
use Rattle.typing_forms.specs.judged.Resolutions.{types_view}
use Rattle.typing_forms.specs.found.Elements.{base_of, HasAbstractScalar}
use Rattle.typing_forms.proofs.Walks.{one_end}
use Rattle.typing_forms.proofs.elements.is_abstract.Goals as goal

pub returns-in-Some : goal.returns-in-Some
returns-in-Some c = (
  (λ h. (inner_view c.in-Some.element.now, c.in-Some.ensures.found, c.has_abstract_scalar.ensures.0 h)),
  (λ x. c.has_abstract_scalar.ensures.1
      (subst HasAbstractScalar (one_end base_of (types_view c.args.types.now) (inner_view c.args.inner.now) x.0 (inner_view c.in-Some.element.now) x.1 c.in-Some.ensures.found) x.2)),
)
