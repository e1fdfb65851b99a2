-- The rule of each kind of statement, without nested statements, scope and control flow.
use Rattle.std.specs.Prelude.{IfSome}
use Rattle.ir_blocks.specs.judged.Plain.{PlainOperation, control_barrier, memory_barrier, store, image_store, atomic, image_atomic, uniform_load, ray_query, ballot, collective, gather, cooperative_store, ray_pipeline, PlainStatement, emit, block, if_, switch, loop, break, continue, return, kill, operation, call}
use Rattle.spec_statements.specs.judged.Atomics.{AtomicStatementOK}
use Rattle.spec_statements.specs.judged.Barriers.{BarrierOK}
use Rattle.spec_statements.specs.judged.BlockContext.{BlockContext, form_at}
use Rattle.spec_statements.specs.judged.Calls.{CallOK}
use Rattle.spec_statements.specs.judged.Conditions.{ConditionOK}
use Rattle.spec_statements.specs.judged.CooperativeStores.{CooperativeStoreOK}
use Rattle.spec_statements.specs.judged.Emits.{EmitOK}
use Rattle.spec_statements.specs.judged.RayPipelines.{RayPipelineOK}
use Rattle.spec_statements.specs.judged.RayQueries.{RayQueryOK}
use Rattle.spec_statements.specs.judged.Returns.{ReturnOK}
use Rattle.spec_statements.specs.judged.StorageImages.{ImageStoreOK, ImageAtomicOK}
use Rattle.spec_statements.specs.judged.Stores.{StoreOK}
use Rattle.spec_statements.specs.judged.Subgroups.{BallotOK, CollectiveOK, GatherOK}
use Rattle.spec_statements.specs.judged.Switches.{SwitchOK}
use Rattle.spec_statements.specs.judged.UniformLoads.{UniformLoadStatementOK}

abbrev pub OperationOK : BlockContext → PlainOperation → Type 0
OperationOK c (control_barrier barrier) = BarrierOK c barrier
OperationOK c (memory_barrier barrier) = BarrierOK c barrier
OperationOK c (store pointer value) = StoreOK c pointer value
OperationOK c (image_store image coordinate array_index value) = ImageStoreOK c image coordinate array_index value
OperationOK c (atomic pointer fun value result) = AtomicStatementOK c pointer fun value result
OperationOK c (image_atomic image coordinate array_index fun value) = ImageAtomicOK c image coordinate array_index fun value
OperationOK c (uniform_load pointer result) = UniformLoadStatementOK c pointer result
OperationOK c (ray_query query fun) = RayQueryOK c query fun
OperationOK c (ballot result predicate) = BallotOK c predicate
OperationOK c (collective op collective_op argument result) = CollectiveOK c op collective_op argument result
OperationOK c (gather mode argument result) = GatherOK c mode argument result
OperationOK c (cooperative_store target place) = CooperativeStoreOK c target place
OperationOK c (ray_pipeline fun) = RayPipelineOK c fun

abbrev pub StatementOK : BlockContext → PlainStatement → Type 0
StatementOK c (emit first end) = EmitOK c.f.expressions first end
StatementOK c (block b) = Unit {0}
StatementOK c (if_ condition accept reject) = ConditionOK (form_at c condition)
StatementOK c (switch selector cases) = SwitchOK (form_at c selector) cases
StatementOK c (loop body continuing break_if) = IfSome break_if (λ e. ConditionOK (form_at c e))
StatementOK c break = Unit {0}
StatementOK c continue = Unit {0}
StatementOK c (return value) = ReturnOK c value
StatementOK c kill = Unit {0}
StatementOK c (operation a) = OperationOK c a
StatementOK c (call function arguments result) = CallOK c function arguments result
