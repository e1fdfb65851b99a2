-- An atomic operation, an image store or a uniform load with an error breaks its rule.
use Rattle.std.specs.Prelude.{ℕ, Option}
use Rattle.function_atomic_checks.specs.Atomics.{IsAtomicFault}
use Rattle.function_atomic_checks.specs.StorageImages.{IsImageStoreFault, IsImageAtomicFault}
use Rattle.function_atomic_checks.specs.UniformLoads.{IsUniformLoadFault}
use Rattle.typing_errors.specs.declared.error.FunctionError.{FunctionError}
use Rattle.ir_blocks.specs.declared.operations.AtomicFunction.{AtomicFunction}
use Rattle.spec_statements.specs.judged.Atomics.{AtomicStatementOK}
use Rattle.spec_statements.specs.judged.BlockContext.{BlockContext}
use Rattle.spec_statements.specs.judged.StorageImages.{ImageStoreOK, ImageAtomicOK}
use Rattle.spec_statements.specs.judged.UniformLoads.{UniformLoadStatementOK}

-- The refutation of the rule of each kind.
pub record Refuted (c : BlockContext) (e : FunctionError) : Type 0 where
  pub atomic : (pointer : ℕ) (done : AtomicFunction) (value : ℕ) (result : Option ℕ) → IsAtomicFault c pointer done value result e → AtomicStatementOK c pointer done value result → ⊥
  pub image_store : (image coordinate : ℕ) (array_index : Option ℕ) (value : ℕ) → IsImageStoreFault c image coordinate array_index value e
      → ImageStoreOK c image coordinate array_index value → ⊥
  pub image_atomic : (image coordinate : ℕ) (array_index : Option ℕ) (done : AtomicFunction) (value : ℕ) → IsImageAtomicFault c image coordinate array_index done value e
      → ImageAtomicOK c image coordinate array_index done value → ⊥
  pub uniform_load : (pointer result : ℕ) → IsUniformLoadFault c pointer result e → UniformLoadStatementOK c pointer result → ⊥

abbrev pub FaultsRefute : Type 0
FaultsRefute = (c : BlockContext) (e : FunctionError) → Refuted c e
