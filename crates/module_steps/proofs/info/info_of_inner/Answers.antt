use Rattle.module_type_checks.proofs.Checks.{struct_named}
use Rattle.module_steps.proofs.WholeLaws.{array_tree, struct_tree}
use Rattle.module_steps.proofs.info.info_of_inner.Goals as goal

pub info_of_array-requires-clause-own : goal.info_of_array-requires-clause-own
info_of_array-requires-clause-own c = array_tree c.args.context.now c.args.handle c.args.inner.now c.in-Array.base c.in-Array.size c.in-Array.stride c.requires.known c.requires.at c.in-Array.is

pub info_of_struct-requires-clause-named : goal.info_of_struct-requires-clause-named
info_of_struct-requires-clause-named c = struct_named _ c.args.inner.now c.in-Struct.members c.in-Struct.span c.as_slice.result.now c.in-Struct.is c.as_slice.ensures.value c.requires.named

pub info_of_struct-requires-clause-own : goal.info_of_struct-requires-clause-own
info_of_struct-requires-clause-own c = struct_tree c.args.context.now c.args.handle c.args.inner.now c.in-Struct.members c.in-Struct.span c.as_slice.result.now c.requires.known c.requires.at c.in-Struct.is c.as_slice.ensures.value
