-- A statement with an error breaks its rule.
use Rattle.std.specs.Prelude.{ℕ, List, Option}
use Rattle.typing_errors.specs.declared.error.FunctionError.{FunctionError}
use Rattle.ir_types.specs.declared.expressions.CooperativeData.{CooperativeData}
use Rattle.ir_flags.specs.declared.memory.Barrier.{Barrier}
use Rattle.spec_statements.specs.judged.Barriers.{BarrierOK}
use Rattle.spec_statements.specs.judged.BlockContext.{BlockContext, form_at}
use Rattle.spec_statements.specs.judged.Calls.{CallOK}
use Rattle.spec_statements.specs.judged.Conditions.{ConditionOK}
use Rattle.spec_statements.specs.judged.CooperativeStores.{CooperativeStoreOK}
use Rattle.spec_statements.specs.judged.Emits.{EmitOK}
use Rattle.spec_statements.specs.judged.Returns.{ReturnOK}
use Rattle.spec_statements.specs.judged.Stores.{StoreOK}
use Rattle.function_statement_checks.specs.Barriers.{IsBarrierFault}
use Rattle.function_statement_checks.specs.Calls.{IsCallFault}
use Rattle.function_statement_checks.specs.Conditions.{IsConditionFault}
use Rattle.function_statement_checks.specs.CooperativeStores.{IsCooperativeFault}
use Rattle.function_statement_checks.specs.Emits.{IsEmitFault}
use Rattle.function_statement_checks.specs.Returns.{IsReturnFault}
use Rattle.function_statement_checks.specs.Stores.{IsStoreFault}

-- The refutation of the rule of each kind.
pub record Refuted (c : BlockContext) (e : FunctionError) : Type 0 where
  pub barrier : (barrier : Barrier) → IsBarrierFault c barrier e → BarrierOK c barrier → ⊥
  pub call : (function : ℕ) (arguments : List ℕ) (result : Option ℕ) → IsCallFault c function arguments result e → CallOK c function arguments result → ⊥
  pub condition : (condition : ℕ) → IsConditionFault c condition e → ConditionOK (form_at c condition) → ⊥
  pub cooperative_store : (target : ℕ) (place : CooperativeData) → IsCooperativeFault c target place e → CooperativeStoreOK c target place → ⊥
  pub emitted : (first end : ℕ) → IsEmitFault c first end e → EmitOK c.f.expressions first end → ⊥
  pub returned : (value : Option ℕ) → IsReturnFault c value e → ReturnOK c value → ⊥
  pub stored : (pointer value : ℕ) → IsStoreFault c pointer value e → StoreOK c pointer value → ⊥

abbrev pub FaultsRefute : Type 0
FaultsRefute = (c : BlockContext) (e : FunctionError) → Refuted c e
