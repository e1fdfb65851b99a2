-- Errors of statements, by their own rules: a row per kind.
use Rattle.std.specs.Prelude.{IsSomeAnd, ◌≡◌, []}
use Rattle.typing_errors.specs.declared.error.FunctionError.{FunctionError}
use Rattle.ir_blocks.specs.judged.Places.{Place, OccursAt}
use Rattle.ir_blocks.specs.judged.Plain.{PlainOperation, control_barrier, memory_barrier, store, image_store, atomic, image_atomic, uniform_load, ray_query, ballot, collective, gather, cooperative_store, ray_pipeline, PlainStatement, emit, block, if_, switch, loop, break, continue, return, kill, operation, call}
use Rattle.ir_types.specs.found.Faults.{error_of, spans_of}
use Rattle.ir_types.specs.declared.refusal.Refusal.{Refusal}
use Rattle.ir_types.specs.declared.refusal.Refusal.TheVariants as refusal
use Rattle.function_atomic_checks.specs.Atomics.{IsAtomicFault}
use Rattle.function_atomic_checks.specs.StorageImages.{IsImageStoreFault, IsImageAtomicFault}
use Rattle.function_atomic_checks.specs.UniformLoads.{IsUniformLoadFault}
use Rattle.function_statements.specs.RayPipelines.{IsRayPipelineFault}
use Rattle.function_statements.specs.RayQueries.{IsRayQueryFault}
use Rattle.spec_statements.specs.judged.BlockContext.{BlockContext}
use Rattle.function_statement_checks.specs.Barriers.{IsBarrierFault}
use Rattle.function_statement_checks.specs.Calls.{IsCallFault}
use Rattle.function_statement_checks.specs.Conditions.{IsConditionFault}
use Rattle.function_statement_checks.specs.CooperativeStores.{IsCooperativeFault}
use Rattle.function_statement_checks.specs.Emits.{IsEmitFault}
use Rattle.function_statement_checks.specs.Returns.{IsReturnFault}
use Rattle.function_statement_checks.specs.Stores.{IsStoreFault}
use Rattle.function_statements.specs.declared.error.StatementError.{StatementError}
use Rattle.function_statements.specs.declared.error.StatementError.TheVariants.{Memory, Fault}
use Rattle.function_statements.specs.Subgroups.{IsBallotFault, IsCollectiveFault, IsGatherFault}
use Rattle.function_statements.specs.Switches.{IsSwitchFault}

abbrev pub IsOperationFault : BlockContext → PlainOperation → FunctionError → Type 0
IsOperationFault c (control_barrier barrier) e = IsBarrierFault c barrier e
IsOperationFault c (memory_barrier barrier) e = IsBarrierFault c barrier e
IsOperationFault c (store pointer value) e = IsStoreFault c pointer value e
IsOperationFault c (image_store image coordinate array_index value) e = IsImageStoreFault c image coordinate array_index value e
IsOperationFault c (atomic pointer fun value answer) e = IsAtomicFault c pointer fun value answer e
IsOperationFault c (image_atomic image coordinate array_index fun value) e = IsImageAtomicFault c image coordinate array_index fun value e
IsOperationFault c (uniform_load pointer answer) e = IsUniformLoadFault c pointer answer e
IsOperationFault c (ray_query query fun) e = IsRayQueryFault c query fun e
IsOperationFault c (ballot answer predicate) e = IsBallotFault c predicate e
IsOperationFault c (collective op collective_op argument answer) e = IsCollectiveFault c op collective_op argument answer e
IsOperationFault c (gather mode argument answer) e = IsGatherFault c mode argument answer e
IsOperationFault c (cooperative_store target place) e = IsCooperativeFault c target place e
IsOperationFault c (ray_pipeline fun) e = IsRayPipelineFault c fun e

abbrev pub IsStatementFault : BlockContext → PlainStatement → FunctionError → Type 0
IsStatementFault c (emit first end) e = IsEmitFault c first end e
IsStatementFault c (block b) e = ⊥
IsStatementFault c (if_ condition accept reject) e = IsConditionFault c condition e
IsStatementFault c (switch selector cases) e = IsSwitchFault c selector cases e
IsStatementFault c (loop body continuing break_if) e = IsSomeAnd break_if (λ condition. IsConditionFault c condition e)
IsStatementFault c break e = ⊥
IsStatementFault c continue e = ⊥
IsStatementFault c (return value) e = IsReturnFault c value e
IsStatementFault c kill e = ⊥
IsStatementFault c (operation a) e = IsOperationFault c a e
IsStatementFault c (call function arguments answer) e = IsCallFault c function arguments answer e

-- ---- where it occurs

-- The statement at the place has this error.
pub record IsBodyFaultAt (c : BlockContext) (e : FunctionError) (place : Place) : Type 0 where
  pub statement : PlainStatement
  pub stands : OccursAt c.f.body place statement
  pub wrong : IsStatementFault c statement e

-- A statement of the body has this error.
abbrev pub IsBodyFault : BlockContext → FunctionError → Type 0
IsBodyFault c e = (p : Place) × IsBodyFaultAt c e p

-- out of memory, or this holds for the error
abbrev pub IfFault : StatementError → (FunctionError → Type 0) → Type 0
IfFault (Memory e) P = Unit {0}
IfFault (Fault e) P = P e

-- a refusal has such an error of the place, or is out of memory
abbrev pub IsBodyRefusalAt : BlockContext → Refusal FunctionError → Place → Type 0
IsBodyRefusalAt c (refusal.Memory e) p = Unit {0}
IsBodyRefusalAt c (refusal.Fault e) p = IsBodyFaultAt c (error_of e) p × (spans_of e ≡ [])
