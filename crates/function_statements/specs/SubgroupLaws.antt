-- A subgroup operation with an error breaks its rule.
use Rattle.std.specs.Prelude.{ℕ, Option}
use Rattle.typing_errors.specs.declared.error.FunctionError.{FunctionError}
use Rattle.ir_blocks.specs.declared.operations.GatherMode.{GatherMode}
use Rattle.ir_kinds.specs.declared.subgroups.CollectiveOperation.{CollectiveOperation}
use Rattle.ir_kinds.specs.declared.subgroups.SubgroupOperation.{SubgroupOperation}
use Rattle.spec_statements.specs.judged.BlockContext.{BlockContext}
use Rattle.spec_statements.specs.judged.Subgroups.{BallotOK, CollectiveOK, GatherOK}
use Rattle.function_statements.specs.Subgroups.{IsBallotFault, IsCollectiveFault, IsGatherFault}

-- The refutation of the rule of each kind.
pub record Refuted (c : BlockContext) (e : FunctionError) : Type 0 where
  pub ballot : (predicate : Option ℕ) → IsBallotFault c predicate e → BallotOK c predicate → ⊥
  pub collective : (done : SubgroupOperation) (over : CollectiveOperation) (argument result : ℕ) → IsCollectiveFault c done over argument result e → CollectiveOK c done over argument result → ⊥
  pub gather : (how : GatherMode) (argument result : ℕ) → IsGatherFault c how argument result e → GatherOK c how argument result → ⊥

abbrev pub FaultsRefute : Type 0
FaultsRefute = (c : BlockContext) (e : FunctionError) → Refuted c e
