-- The items of a module as plain data.
pub use Rattle.ir_types.specs.judged.Plain.{PlainMember, PlainInner, struct, PlainType}
pub use Rattle.ir_types.specs.judged.ExpressionPlain.{PlainExpression, compose}
pub use Rattle.ir_blocks.specs.judged.Plain.{PlainOperation, control_barrier, memory_barrier, store, image_store, atomic, image_atomic, uniform_load, ray_query, ballot, collective, gather, cooperative_store, ray_pipeline}
pub use Rattle.ir_blocks.specs.judged.Plain.{PlainStatement, emit, block, if_, switch, loop, break, continue, return, kill, operation, call}
pub use Rattle.ir_blocks.specs.judged.Plain.{PlainBlock, stop, next, PlainCases, no_case, case}
pub use Rattle.ir_items.specs.judged.GlobalPlain.{PlainConstant, PlainOverride, PlainGlobal, PlainRule, standard, unknown, user, PlainFilterNode, PlainSpecialTypes}
pub use Rattle.ir_items.specs.judged.Plain.{PlainArgument, PlainLocal, PlainFunction, PlainEntry, PlainModule}
