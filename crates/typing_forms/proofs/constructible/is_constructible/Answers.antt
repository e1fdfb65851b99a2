use Rattle.ir_types.specs.judged.Plain.{inner_view}
use Rattle.typing_forms.specs.judged.Resolutions.{types_view}
use Rattle.typing_forms.proofs.Constructed.{whole_decides}
use Rattle.typing_forms.proofs.constructible.is_constructible.Goals as goal

pub returns : goal.returns
returns c =
    whole_decides (types_view c.args.types.now) c.in_ok-known.known.items c.as_slice.result.now (inner_view c.args.inner.now) c.composed_of.result
    c.in_ok-known.ensures c.as_slice.ensures.value c.composed_of.ensures
