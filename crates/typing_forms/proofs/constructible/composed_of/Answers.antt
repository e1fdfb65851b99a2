use Rattle.typing_forms.proofs.Constructed.{struct_composed}
use Rattle.typing_forms.proofs.constructible.composed_of.Goals as goal

pub returns-in-Struct : goal.returns-in-Struct
returns-in-Struct c =
    struct_composed c.args.known.now c.args.inner.now c.in-Struct.members c.in-Struct.span c.as_slice.result.now c.all_known.result
    c.in-Struct.is c.as_slice.ensures.value c.all_known.ensures
