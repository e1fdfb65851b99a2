use Rattle.ir_types.specs.judged.Plain.{inner_view}
use Rattle.typing_forms.specs.judged.Resolutions.{types_view}
use Rattle.typing_forms.proofs.Walks.{no_scalar}
use Rattle.typing_forms.proofs.elements.scalar_for_conversions.Goals as goal

pub returns-in-Some-clause-none : goal.returns-in-Some-clause-none
returns-in-Some-clause-none c =
    no_scalar (types_view c.args.types.now) (inner_view c.args.inner.now) (inner_view c.in-Some.element.now) c.converted_scalar.result
    c.in-Some.ensures.found c.converted_scalar.ensures
