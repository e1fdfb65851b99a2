-- What is used above of `ir_blocks`, re-exported.
pub use Rattle.ir_blocks.specs.declared.operations.AtomicFunction.{AtomicFunction}
pub use Rattle.ir_blocks.specs.declared.operations.AtomicFunction.TheVariants as does
pub use Rattle.ir_blocks.specs.declared.operations.GatherMode.{GatherMode}
pub use Rattle.ir_blocks.specs.declared.operations.GatherMode.TheVariants as mode
pub use Rattle.ir_blocks.specs.declared.operations.RayPipelineFunction.{RayPipelineFunction}
pub use Rattle.ir_blocks.specs.declared.operations.RayPipelineFunction.TheVariants as pipeline
pub use Rattle.ir_blocks.specs.declared.operations.RayQueryFunction.{RayQueryFunction}
pub use Rattle.ir_blocks.specs.declared.operations.RayQueryFunction.TheVariants as ray
pub use Rattle.ir_blocks.specs.judged.Places.{Before, IsTop, OccursAt, Place, body_before_condition, body_before_continuing, both_inside, both_later, condition, continuing_before_condition, earlier, here, inside, later, statement, top_here, top_later}
pub use Rattle.ir_blocks.specs.judged.Plain.{PlainBlock, PlainCases, PlainOperation, PlainStatement, atomic, ballot, block, break, call, case, collective, continue, control_barrier, cooperative_store, emit, gather, if_, image_atomic, image_store, kill, loop, memory_barrier, next, no_case, operation, ray_pipeline, ray_query, return, stop, store, switch, uniform_load}
pub use Rattle.ir_blocks.specs.judged.Shapes.{Exit, Part, accepting, case_at, case_body, inner, kills, loop_body, loop_continuing, part_of, rejecting, returns, shape_of}
