-- If handles are valid, the items that expressions reference exist, and operands precede.
use Rattle.std.proofs.Common.{◌≡◌, ℕ, ◌<◌, Some, refl, length, slice_get}
use Rattle.ir_types.specs.judged.ExpressionPlain.{PlainExpression, compose, plain}
use Rattle.ir_types.specs.declared.expressions.Expression.TheVariants as x
use Rattle.ir_items.specs.judged.Plain.{PlainFunction, PlainModule}
use Rattle.module_handles.specs.Steps.{ExpressionConditions, AllExpressions, OrderGivesExpressions}
use Rattle.typing_handles.proofs.Ordered.{conditions}
use Rattle.typing_handles.specs.Conditions.{FunctionConditions}
use Rattle.spec_expressions.specs.judged.Context.{Context, inside, outside, NamesItem}
use Rattle.spec_expressions.specs.judged.ExpressionNames.{expression_item}
use Rattle.spec_expressions.specs.judged.ModuleHandles.{HandlesOK}
use Rattle.spec_expressions.specs.judged.ModuleReferences.{expression, expression_names}
use Rattle.spec_expressions.specs.judged.References.{computed, item, ItemExists}
use Rattle.spec_expressions.specs.judged.References.{expression_names as function_names}
use Rattle.spec_expressions.specs.declared.target.Target.{Target}
use Rattle.spec_expressions.specs.declared.target.Target.TheVariants as target
use Rattle.typing_handles.proofs.SameLemmas.{same_order}

-- the item exists, among those that type inference looks up
abbrev IsIn : Context → Target → Type 0
IsIn c (target.Type handle) = Unit {0}
IsIn c (target.Constant handle) = handle < length c.constants
IsIn c (target.Override handle) = handle < length c.overrides
IsIn c (target.GlobalVariable handle) = handle < length c.globals
IsIn c (target.LocalVariable handle) = handle < length c.locals
IsIn c (target.Function handle) = handle < length c.functions
IsIn c (target.DiagnosticFilter handle) = Unit {0}

names_item : (c : Context) (e : PlainExpression) → ((t : Target) → expression_item e ≡ Some t → IsIn c t) → NamesItem c e
names_item c (compose type components) h = record {}
names_item c (plain (x.Literal value)) h = record {}
names_item c (plain (x.Constant handle)) h = h (target.Constant handle) refl
names_item c (plain (x.Override handle)) h = h (target.Override handle) refl
names_item c (plain (x.ZeroValue type)) h = record {}
names_item c (plain (x.Compose type components)) h = record {}
names_item c (plain (x.Access base index)) h = record {}
names_item c (plain (x.AccessIndex base index)) h = record {}
names_item c (plain (x.Splat size value)) h = record {}
names_item c (plain (x.Swizzle size vector pattern)) h = record {}
names_item c (plain (x.FunctionArgument number)) h = record {}
names_item c (plain (x.GlobalVariable handle)) h = h (target.GlobalVariable handle) refl
names_item c (plain (x.LocalVariable handle)) h = h (target.LocalVariable handle) refl
names_item c (plain (x.Load pointer)) h = record {}
names_item c (plain (x.ImageSample image sampler gathers coordinate array_index offset level depth_ref clamp_to_edge)) h = record {}
names_item c (plain (x.ImageLoad image coordinate array_index sample level)) h = record {}
names_item c (plain (x.ImageQuery image query)) h = record {}
names_item c (plain (x.Unary op expr)) h = record {}
names_item c (plain (x.Binary op left right)) h = record {}
names_item c (plain (x.Select condition accept reject)) h = record {}
names_item c (plain (x.Derivative axis ctrl expr)) h = record {}
names_item c (plain (x.Relational fun argument)) h = record {}
names_item c (plain (x.Math fun arg arg1 arg2 arg3)) h = record {}
names_item c (plain (x.As expr kind convert)) h = record {}
names_item c (plain (x.CallResult handle)) h = h (target.Function handle) refl
names_item c (plain (x.AtomicResult type comparison)) h = record {}
names_item c (plain (x.WorkGroupUniformLoadResult type)) h = record {}
names_item c (plain (x.ArrayLength array)) h = record {}
names_item c (plain (x.RayQueryVertexPositions query committed)) h = record {}
names_item c (plain x.RayQueryProceedResult) h = record {}
names_item c (plain (x.RayQueryGetIntersection query committed)) h = record {}
names_item c (plain x.SubgroupBallotResult) h = record {}
names_item c (plain (x.SubgroupOperationResult type)) h = record {}
names_item c (plain (x.CooperativeLoad columns rows role place)) h = record {}
names_item c (plain (x.CooperativeMultiplyAdd p q r)) h = record {}

module _ (m : PlainModule) (ok : HandlesOK m) where
  in_module : (e : ℕ) (x : PlainExpression) (t : Target) → slice_get m.global_expressions e ≡ Some x → expression_item x ≡ Some t → IsIn (outside m) t
  in_module e x (target.Type handle) at is = tt
  in_module e x (target.Constant handle) at is = ok.there (expression e) (item (target.Constant handle)) (expression_names at is)
  in_module e x (target.Override handle) at is = ok.there (expression e) (item (target.Override handle)) (expression_names at is)
  in_module e x (target.GlobalVariable handle) at is = ok.there (expression e) (item (target.GlobalVariable handle)) (expression_names at is)
  in_module e x (target.LocalVariable handle) at is = absurd (ok.there (expression e) (item (target.LocalVariable handle)) (expression_names at is))
  in_module e x (target.Function handle) at is = ok.there (expression e) (item (target.Function handle)) (expression_names at is)
  in_module e x (target.DiagnosticFilter handle) at is = tt

  is_in : (f : PlainFunction) (t : Target) → ItemExists m f t → IsIn (inside m f) t
  is_in f (target.Type handle) h = tt
  is_in f (target.Constant handle) h = h
  is_in f (target.Override handle) h = h
  is_in f (target.GlobalVariable handle) h = h
  is_in f (target.LocalVariable handle) h = h
  is_in f (target.Function handle) h = h
  is_in f (target.DiagnosticFilter handle) h = tt

  of_function : (before : ℕ) (f : PlainFunction) → FunctionConditions m before f → ExpressionConditions (inside m f) f.expressions
  of_function before f c = record {
    items = λ e x at. names_item (inside m f) x (λ t is. is_in f t (c.in_range (computed e) (item t) (function_names at is)));
    operands = (same_order f.expressions).0 c.operands;
  }

  all : AllExpressions m
  all =
      let given = conditions m ok in
      record {
        globals = record { items = λ e x at. names_item (outside m) x (λ t is. in_module e x t at is); operands = (same_order m.global_expressions).0 given.global_expressions };
        functions = λ i f at. of_function i f (given.functions i f at);
        entries = λ k x at. of_function (length m.functions) x.function (given.entries k x at);
      }

pub order_gives_expressions : OrderGivesExpressions
order_gives_expressions m ok = all m ok
