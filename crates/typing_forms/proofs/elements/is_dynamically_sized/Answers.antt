use Rattle.std.proofs.Common.{sym, ap, ◌∙◌}
use Rattle.ir_types.specs.judged.Plain.{inner_view}
use Rattle.typing_forms.specs.judged.Resolutions.{types_view}
use Rattle.typing_forms.specs.found.Elements.{last_of, is_runtime_array}
use Rattle.typing_forms.proofs.Walks.{one_end}
use Rattle.typing_forms.proofs.elements.is_dynamically_sized.Goals as goal

pub returns-in-Some : goal.returns-in-Some
returns-in-Some c = (
  (λ h. (inner_view c.in-Some.last.now, c.in-Some.ensures.found, sym c.is_runtime_array.ensures ∙ h)),
  (λ x. c.is_runtime_array.ensures
      ∙ (ap is_runtime_array (one_end last_of (types_view c.args.types.now) (inner_view c.args.inner.now) (inner_view c.in-Some.last.now) x.0 c.in-Some.ensures.found x.1) ∙ x.2)),
)
