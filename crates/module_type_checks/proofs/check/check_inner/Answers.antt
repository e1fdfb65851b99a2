use Rattle.module_type_checks.proofs.Checks.{struct_named, struct_answer}
use Rattle.module_type_checks.proofs.check.check_inner.Goals as goal

pub check_struct-requires-clause-named : goal.check_struct-requires-clause-named
check_struct-requires-clause-named c = struct_named _ c.args.inner.now c.in-Struct.members c.in-Struct.span c.as_slice.result.now c.in-Struct.is c.as_slice.ensures.value c.requires.named

pub returns-in-Struct : goal.returns-in-Struct
returns-in-Struct c =
    struct_answer c.args.context.now c.args.handle c.args.inner.now c.in-Struct.members c.in-Struct.span c.as_slice.result.now c.check_struct.result c.in-Struct.is c.as_slice.ensures.value c.check_struct.ensures
