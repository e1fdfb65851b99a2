-- Subgroup operations.
use Rattle.std.specs.Prelude.{◌≡◌, ◌≤◌, ℕ, Option, Some, None, IfSome, IsSomeAnd, option_and_then, slice_get}
use Rattle.ir_blocks.specs.declared.operations.GatherMode.{GatherMode}
use Rattle.ir_types.specs.judged.ExpressionPlain.{PlainExpression, plain}
use Rattle.ir_types.specs.declared.expressions.Expression.TheVariants as x
use Rattle.ir_flags.specs.Sets.{Has}
use Rattle.ir_flags.specs.declared.settings.TheConstants.Capabilities.{SUBGROUP}
use Rattle.ir_flags.specs.declared.stages.SubgroupOperationSet.{SubgroupOperationSet}
use Rattle.ir_flags.specs.declared.stages.TheConstants.SubgroupOperationSet.{VOTE, ARITHMETIC, BALLOT}
use Rattle.ir_kinds.specs.judged.Scalars.{boolean, unsigned}
use Rattle.ir_kinds.specs.declared.scalars.Scalar.{Scalar}
use Rattle.ir_kinds.specs.declared.scalars.ScalarKind.{ScalarKind}
use Rattle.ir_kinds.specs.declared.scalars.ScalarKind.TheVariants as kind
use Rattle.ir_kinds.specs.declared.subgroups.CollectiveOperation.{CollectiveOperation}
use Rattle.ir_kinds.specs.declared.subgroups.CollectiveOperation.TheVariants as over
use Rattle.ir_kinds.specs.declared.subgroups.SubgroupOperation.{SubgroupOperation}
use Rattle.ir_kinds.specs.declared.subgroups.SubgroupOperation.TheVariants as op
use Rattle.spec_expressions.specs.TypingForms.{form_of_type}
use Rattle.spec_expressions.specs.TypingForms.form as form
use Rattle.typing_layout.specs.judged.Constness.{IsOfKind}
use Rattle.typing_layout.specs.declared.constness.ExpressionKind.TheVariants.{Const}
use Rattle.spec_statements.specs.judged.Shapes.{IsScalarShape, IsInteger, IsScalarOrVector, IsBool, IsMadeOf, shaped_of}
use Rattle.spec_statements.specs.declared.shapes.Shape.{Shape}
use Rattle.spec_expressions.specs.judged.Operands.{gather_index, gather_row}
use Rattle.spec_statements.specs.judged.BlockContext.{BlockContext, form_at}

-- ---- requirements

abbrev pub collective_needs : SubgroupOperation → SubgroupOperationSet
collective_needs op.All = VOTE
collective_needs op.Any = VOTE
collective_needs op.Add = ARITHMETIC
collective_needs op.Mul = ARITHMETIC
collective_needs op.Min = ARITHMETIC
collective_needs op.Max = ARITHMETIC
collective_needs op.And = ARITHMETIC
collective_needs op.Or = ARITHMETIC
collective_needs op.Xor = ARITHMETIC

abbrev pub gather_needs : GatherMode → SubgroupOperationSet
gather_needs how = (gather_row how).needs

-- The validator allows subgroups, and the operation.
pub record HasOperation (c : BlockContext) (needed : SubgroupOperationSet) : Type 0 where
  pub capable : Has c.capabilities.0 SUBGROUP.0
  pub supported : Has c.operations.0 needed.0

-- ---- results

-- the type that a `SubgroupOperationResult` declares
abbrev pub answered_type : PlainExpression → Option ℕ
answered_type e = elim e [ plain (x.SubgroupOperationResult type) ↦ Some type | _ ↦ None ]

-- the result has the argument's type
abbrev pub AnswersAs : BlockContext → (argument result : ℕ) → Type 0
AnswersAs c argument result = IsSomeAnd (option_and_then answered_type (slice_get c.f.expressions result)) (λ t. form_of_type c.m.types t ≡ form_at c argument)

-- ---- ballots

-- the predicate of a ballot is `bool` or absent
pub record BallotOK (c : BlockContext) (predicate : Option ℕ) : Type 0 where
  pub operation : HasOperation c BALLOT
  pub truth : IfSome predicate (λ e. form_at c e ≡ form.Scalar boolean)

-- ---- collective operations

-- integers and floats
abbrev pub IsSubgroupNumber : ScalarKind → Type 0
IsSubgroupNumber kind.Sint = Unit {0}
IsSubgroupNumber kind.Uint = Unit {0}
IsSubgroupNumber kind.Float = Unit {0}
IsSubgroupNumber _ = ⊥

-- `All` and `Any` take scalar bools; bit operations take integers of at least 32 bits, because `WaveActiveBitAnd`, `Or` and
-- `Xor` of HLSL take none of 16
abbrev pub TakesShape : SubgroupOperation → Shape → Scalar → Type 0
TakesShape op.All shape s = IsScalarShape shape × IsBool s.kind
TakesShape op.Any shape s = IsScalarShape shape × IsBool s.kind
TakesShape op.Add shape s = IsScalarOrVector shape × IsSubgroupNumber s.kind
TakesShape op.Mul shape s = IsScalarOrVector shape × IsSubgroupNumber s.kind
TakesShape op.Min shape s = IsScalarOrVector shape × IsSubgroupNumber s.kind
TakesShape op.Max shape s = IsScalarOrVector shape × IsSubgroupNumber s.kind
TakesShape op.And shape s = IsScalarOrVector shape × IsInteger s.kind × (4 ≤ s.width)
TakesShape op.Or shape s = IsScalarOrVector shape × IsInteger s.kind × (4 ≤ s.width)
TakesShape op.Xor shape s = IsScalarOrVector shape × IsInteger s.kind × (4 ≤ s.width)

abbrev pub IsScanned : SubgroupOperation → Type 0
IsScanned o = elim o [ op.Add ↦ Unit {0} | op.Mul ↦ Unit {0} | _ ↦ ⊥ ]

-- reductions allow all operations, scans only `Add` and `Mul`
abbrev pub GoesOver : CollectiveOperation → SubgroupOperation → Type 0
GoesOver how operation = elim how [ over.Reduce ↦ Unit {0} | over.InclusiveScan ↦ IsScanned operation | over.ExclusiveScan ↦ IsScanned operation ]

pub record CollectiveOK (c : BlockContext) (done : SubgroupOperation) (over_all : CollectiveOperation) (argument result : ℕ) : Type 0 where
  pub operation : HasOperation c (collective_needs done)
  pub takes : IsSomeAnd (shaped_of (form_at c argument)) (λ v. TakesShape done v.shape v.scalar)
  pub goes : GoesOver over_all done
  pub answered : AnswersAs c argument result

-- ---- gathers

-- the index is a const expression
abbrev pub IndexIsKnown : BlockContext → GatherMode → Type 0
IndexIsKnown c how = IfSome (gather_row how).constant (λ index. IsOfKind c.f.expressions index Const)

pub record GatherOK (c : BlockContext) (how : GatherMode) (argument result : ℕ) : Type 0 where
  pub operation : HasOperation c (gather_needs how)
  pub index : IfSome (gather_index how) (λ e. form_at c e ≡ form.Scalar (unsigned 4))
  pub known : IndexIsKnown c how
  pub number : IsMadeOf IsScalarOrVector IsSubgroupNumber (form_at c argument)
  pub answered : AnswersAs c argument result
