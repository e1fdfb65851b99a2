-- An operation of a subgroup with a fault does not meet its rule.
use Rattle.std.proofs.Common.{◌≡◌, ℕ, Option, Some, None, IfSome, inl, inr, subst}
use Rattle.typing_errors.specs.declared.error.FunctionError.{FunctionError}
use Rattle.typing_errors.specs.declared.error.FunctionError.TheVariants as error
use Rattle.typing_errors.specs.declared.subgroups.SubgroupError.{SubgroupError}
use Rattle.typing_errors.specs.declared.subgroups.SubgroupError.TheVariants as fault
use Rattle.ir_blocks.specs.declared.operations.GatherMode.{GatherMode}
use Rattle.ir_flags.specs.declared.stages.SubgroupOperationSet.{SubgroupOperationSet}
use Rattle.ir_flags.specs.declared.stages.TheConstants.SubgroupOperationSet.{BALLOT}
use Rattle.ir_kinds.specs.declared.subgroups.CollectiveOperation.{CollectiveOperation}
use Rattle.ir_kinds.specs.declared.subgroups.SubgroupOperation.{SubgroupOperation}
use Rattle.spec_expressions.specs.judged.Operands.{gather_index}
use Rattle.spec_statements.specs.judged.BlockContext.{BlockContext}
use Rattle.spec_statements.specs.judged.Subgroups.{HasOperation, BallotOK, CollectiveOK, GatherOK, collective_needs, gather_needs}
use Rattle.function_statements.specs.SubgroupLaws.{FaultsRefute}
use Rattle.function_statements.specs.Subgroups.{IsUnsupported, IsOperationFault, IsBadPredicate, IsBallotFault, IsBadCollective, IsCollectiveFault, IsBadOperand, IsBadGather, IsGatherFault}

-- what is so of something that is there
it_is : (o : Option ℕ) (x : ℕ) (P : ℕ → Type 0) → o ≡ Some x → IfSome o P → P x
it_is None x P is holds = absurd (let e = is in cc)
it_is (Some y) x P is holds = let same : y ≡ x = (let e = is in cc) in subst P same holds

unsupported_refuted : (c : BlockContext) (needed : SubgroupOperationSet) (e : SubgroupError) → IsUnsupported c needed e → HasOperation c needed → ⊥
unsupported_refuted c needed (fault.UnsupportedOperation set) wrong ok = wrong.1 ok.supported
unsupported_refuted c needed _ wrong ok = wrong

operation_refuted : (c : BlockContext) (needed : SubgroupOperationSet) (e : FunctionError) → IsOperationFault c needed e → HasOperation c needed → ⊥
operation_refuted c needed (error.MissingCapability missing) wrong ok = wrong.1 ok.capable
operation_refuted c needed (error.InvalidSubgroup e) wrong ok = unsupported_refuted c needed e wrong ok
operation_refuted c needed _ wrong ok = wrong

-- ---- ballots

predicate_refuted : (c : BlockContext) (predicate : Option ℕ) (e : SubgroupError) → IsBadPredicate c predicate e → BallotOK c predicate → ⊥
predicate_refuted c predicate (fault.InvalidOperand x) wrong ok = wrong.1 (it_is predicate x _ wrong.0 ok.truth)
predicate_refuted c predicate _ wrong ok = wrong

ballot_refuted : (c : BlockContext) (predicate : Option ℕ) (e : FunctionError) → IsBallotFault c predicate e → BallotOK c predicate → ⊥
ballot_refuted c predicate e (inl wrong) ok = operation_refuted c BALLOT e wrong ok.operation
ballot_refuted c predicate (error.InvalidSubgroup e) (inr wrong) ok = predicate_refuted c predicate e wrong ok
ballot_refuted c predicate _ (inr wrong) ok = wrong

-- ---- collective operations

collected_refuted : (c : BlockContext) (done : SubgroupOperation) (over : CollectiveOperation) (argument result : ℕ) (e : SubgroupError)
    → IsBadCollective c done over argument result e → CollectiveOK c done over argument result → ⊥
collected_refuted c done over argument result (fault.InvalidOperand x) wrong ok = wrong.1 ok.takes
collected_refuted c done over argument result fault.UnknownOperation wrong ok = wrong ok.goes
collected_refuted c done over argument result (fault.ResultTypeMismatch x) wrong ok = wrong.1 ok.answered
collected_refuted c done over argument result _ wrong ok = wrong

collective_refuted : (c : BlockContext) (done : SubgroupOperation) (over : CollectiveOperation) (argument result : ℕ) (e : FunctionError)
    → IsCollectiveFault c done over argument result e → CollectiveOK c done over argument result → ⊥
collective_refuted c done over argument result e (inl wrong) ok = operation_refuted c (collective_needs done) e wrong ok.operation
collective_refuted c done over argument result (error.InvalidSubgroup e) (inr wrong) ok = collected_refuted c done over argument result e wrong ok
collective_refuted c done over argument result _ (inr wrong) ok = wrong

-- ---- gathers

operand_refuted : (c : BlockContext) (how : GatherMode) (argument result x : ℕ) → IsBadOperand c how argument x → GatherOK c how argument result → ⊥
operand_refuted c how argument result x (inl wrong) ok = wrong.1 (it_is (gather_index how) x _ wrong.0 ok.index)
operand_refuted c how argument result x (inr wrong) ok = wrong.1 ok.number

gathered_refuted : (c : BlockContext) (how : GatherMode) (argument result : ℕ) (e : SubgroupError) → IsBadGather c how argument result e → GatherOK c how argument result → ⊥
gathered_refuted c how argument result (fault.InvalidOperand x) wrong ok = operand_refuted c how argument result x wrong ok
gathered_refuted c how argument result (fault.InvalidInvocationIdExprType x) wrong ok = wrong.1 ok.known
gathered_refuted c how argument result (fault.ResultTypeMismatch x) wrong ok = wrong.1 ok.answered
gathered_refuted c how argument result _ wrong ok = wrong

gather_refuted : (c : BlockContext) (how : GatherMode) (argument result : ℕ) (e : FunctionError) → IsGatherFault c how argument result e → GatherOK c how argument result → ⊥
gather_refuted c how argument result e (inl wrong) ok = operation_refuted c (gather_needs how) e wrong ok.operation
gather_refuted c how argument result (error.InvalidSubgroup e) (inr wrong) ok = gathered_refuted c how argument result e wrong ok
gather_refuted c how argument result _ (inr wrong) ok = wrong

pub faults_refute_lem : FaultsRefute
faults_refute_lem c e = record {
  ballot = λ predicate. ballot_refuted c predicate e;
  collective = λ done over argument result. collective_refuted c done over argument result e;
  gather = λ how argument result. gather_refuted c how argument result e;
}
