-- Statements as plain data, without their memory and spans.
use Rattle.std.specs.Prelude.{ℕ, Bool, List, Option}
use Rattle.ir_flags.specs.declared.memory.Barrier.{Barrier}
use Rattle.ir_types.specs.IrKinds.{SubgroupOperation, CollectiveOperation, SwitchValue}
use Rattle.ir_types.specs.declared.expressions.CooperativeData.{CooperativeData}
use Rattle.ir_blocks.specs.declared.operations.AtomicFunction.{AtomicFunction}
use Rattle.ir_blocks.specs.declared.operations.GatherMode.{GatherMode}
use Rattle.ir_blocks.specs.declared.operations.RayQueryFunction.{RayQueryFunction}
use Rattle.ir_blocks.specs.declared.operations.RayPipelineFunction.{RayPipelineFunction}

-- a plain operation: no control flow, no `Emit`, no call
pub data PlainOperation : Type 0 where
  control_barrier : Barrier → PlainOperation
  memory_barrier : Barrier → PlainOperation
  store : (pointer value : ℕ) → PlainOperation
  image_store : (image coordinate : ℕ) → (array_index : Option ℕ) → (value : ℕ) → PlainOperation
  atomic : (pointer : ℕ) → AtomicFunction → (value : ℕ) → (result : Option ℕ) → PlainOperation
  image_atomic : (image coordinate : ℕ) → (array_index : Option ℕ) → AtomicFunction → (value : ℕ) → PlainOperation
  uniform_load : (pointer result : ℕ) → PlainOperation
  ray_query : (query : ℕ) → RayQueryFunction → PlainOperation
  ballot : (result : ℕ) → (predicate : Option ℕ) → PlainOperation
  collective : SubgroupOperation → CollectiveOperation → (argument result : ℕ) → PlainOperation
  gather : GatherMode → (argument result : ℕ) → PlainOperation
  cooperative_store : (target : ℕ) → CooperativeData → PlainOperation
  ray_pipeline : RayPipelineFunction → PlainOperation

-- statements (with what they reference as handles), blocks, and the cases of a switch
mutual
  pub data PlainStatement : Type 0 where
    emit : (first end : ℕ) → PlainStatement
    block : PlainBlock → PlainStatement
    if_ : (condition : ℕ) → (accept reject : PlainBlock) → PlainStatement
    switch : (selector : ℕ) → PlainCases → PlainStatement
    loop : (body continuing : PlainBlock) → (break_if : Option ℕ) → PlainStatement
    break : PlainStatement
    continue : PlainStatement
    return : (value : Option ℕ) → PlainStatement
    kill : PlainStatement
    operation : PlainOperation → PlainStatement
    call : (function : ℕ) → (arguments : List ℕ) → (result : Option ℕ) → PlainStatement

  pub data PlainBlock : Type 0 where
    stop : PlainBlock
    next : PlainStatement → PlainBlock → PlainBlock

  pub data PlainCases : Type 0 where
    no_case : PlainCases
    case : (value : SwitchValue) → (body : PlainBlock) → (falls : Bool) → PlainCases → PlainCases
