-- A larger set of capabilities accepts at least as much.
use Rattle.std.proofs.Common.{ℕ, List, [], ◌∷◌, Option, Some, None, IsSomeAnd, Bool, true, false}
use Rattle.ir_types.specs.judged.ExpressionPlain.{PlainExpression, compose, plain}
use Rattle.ir_types.specs.declared.expressions.Expression.{Expression}
use Rattle.ir_types.specs.declared.expressions.Expression.TheVariants as x
use Rattle.ir_flags.specs.Sets.{IsWithin}
use Rattle.ir_flags.specs.declared.settings.Capabilities.{Capabilities}
use Rattle.ir_kinds.specs.judged.Values.{literal_scalar}
use Rattle.ir_kinds.specs.declared.scalars.Scalar.{Scalar}
use Rattle.ir_kinds.specs.declared.scalars.ScalarKind.{ScalarKind}
use Rattle.ir_types.specs.judged.Plain.{PlainInner, PlainMember, PlainType, struct, plain as plain_type}
use Rattle.ir_types.specs.declared.types.TypeInner.{TypeInner}
use Rattle.ir_types.specs.declared.types.TypeInner.TheVariants as inner
use Rattle.spec_statements.specs.judged.Checks.{CheckOf}
use Rattle.spec_statements.specs.judged.Conversions.{IsConverted}
use Rattle.spec_statements.specs.judged.Expressions.{RequiredOf}
use Rattle.spec_statements.specs.found.Laws.{MoreCapabilities, under}
use Rattle.spec_statements.specs.judged.ExpressionResults.{IsAtomicValue, AreExchangeMembers, IsExchange, AtomicResultTypeOK}
use Rattle.spec_statements.specs.judged.Shapes.{IsScalarShape}
use Rattle.spec_statements.specs.declared.shapes.Shaped.{Shaped}
use Rattle.typing_layout.proofs.Capable.{more_capabilities as more_types}
use Rattle.typing_layout.specs.judged.Widths.{ScalarOK, AtomicOK}
use Rattle.typing_layout.specs.judged.View.{type_tree, tree_along}
use Rattle.spec_expressions.specs.TypingForms.{Form}

-- a module of one type
abbrev one_type : TypeInner → List PlainType
one_type i = record { name = None; inner = plain_type i } ∷ []

scalar_more : (few many : Capabilities) (s : Scalar) → IsWithin few.0 many.0 → ScalarOK few s → ScalarOK many s
unfolding type_tree tree_along
scalar_more few many s more ok = (more_types few many more false (one_type (inner.Scalar s)) 0 (record { shape = ok; blends = tt })).shape

atomic_more : (few many : Capabilities) (s : Scalar) → IsWithin few.0 many.0 → AtomicOK few s → AtomicOK many s
unfolding type_tree tree_along
atomic_more few many s more ok = (more_types few many more false (one_type (inner.Atomic s)) 0 (record { shape = ok; blends = tt })).shape

as_more : (few many : Capabilities) (kind : ScalarKind) (convert : Option ℕ) (x : Option Shaped) → IsWithin few.0 many.0
    → IsSomeAnd x (λ x. IsConverted few kind convert x.scalar) → IsSomeAnd x (λ x. IsConverted many kind convert x.scalar)
as_more few many kind convert None more ok = ok
as_more few many kind None (Some x) more ok = ok
as_more few many kind (Some width) (Some x) more ok = scalar_more few many _ more ok

value_more : (few many : Capabilities) (x : Option Shaped) → IsWithin few.0 many.0
    → IsSomeAnd x (λ x. IsScalarShape x.shape × AtomicOK few x.scalar) → IsSomeAnd x (λ x. IsScalarShape x.shape × AtomicOK many x.scalar)
value_more few many None more ok = ok
value_more few many (Some x) more ok = (ok.0, atomic_more few many x.scalar more ok.1)

members_more : (few many : Capabilities) (types : List PlainType) (members : List PlainMember) → IsWithin few.0 many.0 → AreExchangeMembers (IsAtomicValue few) types members → AreExchangeMembers (IsAtomicValue many) types members
members_more few many types [] more ok = ok
members_more few many types (old ∷ []) more ok = ok
members_more few many types (old ∷ exchanged ∷ []) more ok = record {
  old_name = ok.old_name;
  old_type = value_more few many _ more ok.old_type;
  exchanged_name = ok.exchanged_name;
  exchanged_type = ok.exchanged_type;
}
members_more few many types (old ∷ exchanged ∷ next ∷ rest) more ok = ok

exchange_more : (few many : Capabilities) (types : List PlainType) (i : Option PlainInner) → IsWithin few.0 many.0 → IsExchange few types i → IsExchange many types i
exchange_more few many types None more ok = ok
exchange_more few many types (Some (plain_type i)) more ok = ok
exchange_more few many types (Some (struct members span)) more ok = members_more few many types members more ok

result_more : (few many : Capabilities) (types : List PlainType) (type : ℕ) (comparison : Bool) → IsWithin few.0 many.0 → AtomicResultTypeOK few types type comparison → AtomicResultTypeOK many types type comparison
result_more few many types type false more ok = value_more few many _ more ok
result_more few many types type true more ok = exchange_more few many types _ more ok

of_more : (few many : Capabilities) (types : List PlainType) (xs : List PlainExpression) (forms : List Form) (e : Expression) → IsWithin few.0 many.0
    → CheckOf (under few types xs forms) e → CheckOf (under many types xs forms) e
of_more few many types xs forms (x.Literal value) more ok = scalar_more few many (literal_scalar value) more ok
of_more few many types xs forms (x.Constant constant) more ok = ok
of_more few many types xs forms (x.Override override) more ok = ok
of_more few many types xs forms (x.ZeroValue type) more ok = ok
of_more few many types xs forms (x.Compose type components) more ok = ok
of_more few many types xs forms (x.Access base index) more ok = ok
of_more few many types xs forms (x.AccessIndex base index) more ok = ok
of_more few many types xs forms (x.Splat size value) more ok = ok
of_more few many types xs forms (x.Swizzle size vector pattern) more ok = ok
of_more few many types xs forms (x.FunctionArgument number) more ok = ok
of_more few many types xs forms (x.GlobalVariable global) more ok = ok
of_more few many types xs forms (x.LocalVariable local) more ok = ok
of_more few many types xs forms (x.Load pointer) more ok = ok
of_more few many types xs forms (x.ImageSample image sampler gather coordinate array_index offset level depth_ref clamp_to_edge) more ok = ok
of_more few many types xs forms (x.ImageLoad image coordinate array_index sample level) more ok = ok
of_more few many types xs forms (x.ImageQuery image query) more ok = ok
of_more few many types xs forms (x.Unary op expr) more ok = ok
of_more few many types xs forms (x.Binary op left right) more ok = ok
of_more few many types xs forms (x.Select condition accept reject) more ok = ok
of_more few many types xs forms (x.Derivative axis ctrl expr) more ok = ok
of_more few many types xs forms (x.Relational fun argument) more ok = ok
of_more few many types xs forms (x.Math fun arg arg1 arg2 arg3) more ok = ok
of_more few many types xs forms (x.As expr kind convert) more ok = as_more few many kind convert _ more ok
of_more few many types xs forms (x.CallResult function) more ok = ok
of_more few many types xs forms (x.AtomicResult type comparison) more ok = result_more few many types type comparison more ok
of_more few many types xs forms (x.WorkGroupUniformLoadResult type) more ok = ok
of_more few many types xs forms (x.ArrayLength array) more ok = ok
of_more few many types xs forms (x.RayQueryVertexPositions query committed) more ok = ok
of_more few many types xs forms x.RayQueryProceedResult more ok = ok
of_more few many types xs forms (x.RayQueryGetIntersection query committed) more ok = ok
of_more few many types xs forms x.SubgroupBallotResult more ok = ok
of_more few many types xs forms (x.SubgroupOperationResult type) more ok = ok
of_more few many types xs forms (x.CooperativeLoad columns rows role block) more ok = ok
of_more few many types xs forms (x.CooperativeMultiplyAdd a b c) more ok = ok

asked_more : (few many : Capabilities) (types : List PlainType) (xs : List PlainExpression) (forms : List Form) (e : PlainExpression) → IsWithin few.0 many.0
    → RequiredOf (under few types xs forms) e → RequiredOf (under many types xs forms) e
asked_more few many types xs forms (compose type components) more ok = ok
asked_more few many types xs forms (plain e) more ok = of_more few many types xs forms e more ok

pub more_capabilities : MoreCapabilities
more_capabilities few many more types xs forms handle ok =
    record { expression = ok.expression; at = ok.at; met = asked_more few many types xs forms ok.expression more ok.met }
