-- Errors of subgroup operations.
use Rattle.std.specs.Prelude.{◌≡◌, ◌⊎◌, ℕ, Option, Some, IsSomeAnd}
use Rattle.typing_errors.specs.declared.error.FunctionError.{FunctionError}
use Rattle.typing_errors.specs.declared.error.FunctionError.TheVariants as error
use Rattle.typing_errors.specs.declared.subgroups.SubgroupError.{SubgroupError}
use Rattle.typing_errors.specs.declared.subgroups.SubgroupError.TheVariants as fault
use Rattle.ir_blocks.specs.declared.operations.GatherMode.{GatherMode}
use Rattle.ir_flags.specs.Sets.{Has}
use Rattle.ir_flags.specs.declared.settings.TheConstants.Capabilities.{SUBGROUP}
use Rattle.ir_flags.specs.declared.stages.SubgroupOperationSet.{SubgroupOperationSet}
use Rattle.ir_flags.specs.declared.stages.TheConstants.SubgroupOperationSet.{BALLOT}
use Rattle.ir_kinds.specs.judged.Scalars.{boolean, unsigned}
use Rattle.ir_kinds.specs.declared.subgroups.CollectiveOperation.{CollectiveOperation}
use Rattle.ir_kinds.specs.declared.subgroups.SubgroupOperation.{SubgroupOperation}
use Rattle.spec_statements.specs.judged.Shapes.{IsScalarOrVector, IsMadeOf, shaped_of}
use Rattle.spec_expressions.specs.judged.Operands.{gather_index}
use Rattle.spec_statements.specs.judged.BlockContext.{BlockContext, form_at}
use Rattle.spec_statements.specs.judged.Subgroups.{collective_needs, gather_needs, AnswersAs, IsSubgroupNumber, TakesShape, GoesOver, IndexIsKnown}
use Rattle.typing_forms.specs.declared.form.Form.TheVariants as form

-- ---- required operations

-- the operation is not supported
abbrev pub IsUnsupported : BlockContext → (needed : SubgroupOperationSet) → SubgroupError → Type 0
IsUnsupported c needed (fault.UnsupportedOperation set) = (set ≡ needed) × ¬ Has c.operations.0 needed.0
IsUnsupported c needed _ = ⊥

-- subgroup operations are not enabled, or this one is not supported
abbrev pub IsOperationFault : BlockContext → (needed : SubgroupOperationSet) → FunctionError → Type 0
IsOperationFault c needed (error.MissingCapability missing) = (missing ≡ SUBGROUP) × ¬ Has c.capabilities.0 SUBGROUP.0
IsOperationFault c needed (error.InvalidSubgroup e) = IsUnsupported c needed e
IsOperationFault c needed _ = ⊥

-- ---- ballots

abbrev pub IsBadPredicate : BlockContext → (predicate : Option ℕ) → SubgroupError → Type 0
IsBadPredicate c predicate (fault.InvalidOperand e) = (predicate ≡ Some e) × ¬ (form_at c e ≡ form.Scalar boolean)
IsBadPredicate c predicate _ = ⊥

abbrev pub IsPredicateFault : BlockContext → (predicate : Option ℕ) → FunctionError → Type 0
IsPredicateFault c predicate (error.InvalidSubgroup e) = IsBadPredicate c predicate e
IsPredicateFault c predicate _ = ⊥

abbrev pub IsBallotFault : BlockContext → (predicate : Option ℕ) → FunctionError → Type 0
IsBallotFault c predicate e = IsOperationFault c BALLOT e ⊎ IsPredicateFault c predicate e

-- ---- collective operations

abbrev pub IsBadCollective : BlockContext → SubgroupOperation → CollectiveOperation → (argument result : ℕ) → SubgroupError → Type 0
IsBadCollective c done over argument result (fault.InvalidOperand e) =
    (e ≡ argument) × ¬ IsSomeAnd (shaped_of (form_at c argument)) (λ v. TakesShape done v.shape v.scalar)
IsBadCollective c done over argument result fault.UnknownOperation = ¬ GoesOver over done
IsBadCollective c done over argument result (fault.ResultTypeMismatch e) = (e ≡ result) × ¬ AnswersAs c argument result
IsBadCollective c done over argument result _ = ⊥

abbrev pub IsCollectedFault : BlockContext → SubgroupOperation → CollectiveOperation → (argument result : ℕ) → FunctionError → Type 0
IsCollectedFault c done over argument result (error.InvalidSubgroup e) = IsBadCollective c done over argument result e
IsCollectedFault c done over argument result _ = ⊥

abbrev pub IsCollectiveFault : BlockContext → SubgroupOperation → CollectiveOperation → (argument result : ℕ) → FunctionError → Type 0
IsCollectiveFault c done over argument result e = IsOperationFault c (collective_needs done) e ⊎ IsCollectedFault c done over argument result e

-- ---- gathers

-- the index is not `u32`, or the argument is not numeric
abbrev pub IsBadOperand : BlockContext → GatherMode → (argument e : ℕ) → Type 0
IsBadOperand c how argument e =
    ((gather_index how ≡ Some e) × ¬ (form_at c e ≡ form.Scalar (unsigned 4))) ⊎ ((e ≡ argument) × ¬ IsMadeOf IsScalarOrVector IsSubgroupNumber (form_at c argument))

abbrev pub IsBadGather : BlockContext → GatherMode → (argument result : ℕ) → SubgroupError → Type 0
IsBadGather c how argument result (fault.InvalidOperand e) = IsBadOperand c how argument e
IsBadGather c how argument result (fault.InvalidInvocationIdExprType e) = (gather_index how ≡ Some e) × ¬ IndexIsKnown c how
IsBadGather c how argument result (fault.ResultTypeMismatch e) = (e ≡ result) × ¬ AnswersAs c argument result
IsBadGather c how argument result _ = ⊥

abbrev pub IsGatheredFault : BlockContext → GatherMode → (argument result : ℕ) → FunctionError → Type 0
IsGatheredFault c how argument result (error.InvalidSubgroup e) = IsBadGather c how argument result e
IsGatheredFault c how argument result _ = ⊥

abbrev pub IsGatherFault : BlockContext → GatherMode → (argument result : ℕ) → FunctionError → Type 0
IsGatherFault c how argument result e = IsOperationFault c (gather_needs how) e ⊎ IsGatheredFault c how argument result e
