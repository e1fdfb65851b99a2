use Rattle.module_handles.proofs.TypeLemmas.{struct_past}
use Rattle.module_handles.proofs.types.built_past.Goals as goal

pub returns-in-Struct : goal.returns-in-Struct
returns-in-Struct c =
    struct_past c.args.end c.args.inner.now c.in-Struct.members c.in-Struct.span c.as_slice.result.now c.member_past.result c.in-Struct.is c.as_slice.ensures.value c.member_past.ensures
