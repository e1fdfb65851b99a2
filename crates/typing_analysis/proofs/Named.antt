-- If all handles of a function are in range, each item that an expression names exists.
use Rattle.std.proofs.Common.{◌≡◌, ℕ, Some, refl, slice_get}
use Rattle.ir_types.specs.judged.ExpressionPlain.{PlainExpression, compose, plain}
use Rattle.ir_types.specs.declared.expressions.Expression.TheVariants as x
use Rattle.ir_items.specs.judged.Plain.{PlainFunction, PlainModule}
use Rattle.spec_expressions.specs.judged.Context.{inside}
use Rattle.spec_expressions.specs.judged.FunctionHandles.{HandlesInRange}
use Rattle.spec_expressions.specs.judged.ExpressionNames.{expression_item}
use Rattle.spec_expressions.specs.judged.References.{item, computed, expression_names, ItemExists}
use Rattle.spec_expressions.specs.declared.target.Target.{Target}
use Rattle.spec_expressions.specs.declared.target.Target.TheVariants as target
use Rattle.typing_infos.specs.Types.{ItemsNamed}

module _ (m : PlainModule) (f : PlainFunction) (within : HandlesInRange m f) where
  there : (e : ℕ) (y : PlainExpression) (t : Target) → slice_get f.expressions e ≡ Some y → expression_item y ≡ Some t → ItemExists m f t
  there e y t at is = within (computed e) (item t) (expression_names at is)

  pub items_named : ItemsNamed (inside m f) f.expressions
  items_named e (compose type components) at = tt
  items_named e (plain (x.Literal value)) at = tt
  items_named e (plain (x.Constant constant)) at = there e (plain (x.Constant constant)) (target.Constant constant) at refl
  items_named e (plain (x.Override override)) at = there e (plain (x.Override override)) (target.Override override) at refl
  items_named e (plain (x.ZeroValue type)) at = tt
  items_named e (plain (x.Compose type components)) at = tt
  items_named e (plain (x.Access base index)) at = tt
  items_named e (plain (x.AccessIndex base index)) at = tt
  items_named e (plain (x.Splat size value)) at = tt
  items_named e (plain (x.Swizzle size vector pattern)) at = tt
  items_named e (plain (x.FunctionArgument number)) at = tt
  items_named e (plain (x.GlobalVariable global)) at = there e (plain (x.GlobalVariable global)) (target.GlobalVariable global) at refl
  items_named e (plain (x.LocalVariable local)) at = there e (plain (x.LocalVariable local)) (target.LocalVariable local) at refl
  items_named e (plain (x.Load pointer)) at = tt
  items_named e (plain (x.ImageSample image sampler gather coordinate array_index offset level depth_ref clamp_to_edge)) at = tt
  items_named e (plain (x.ImageLoad image coordinate array_index sample level)) at = tt
  items_named e (plain (x.ImageQuery image query)) at = tt
  items_named e (plain (x.Unary op expr)) at = tt
  items_named e (plain (x.Binary op left right)) at = tt
  items_named e (plain (x.Select condition accept reject)) at = tt
  items_named e (plain (x.Derivative axis ctrl expr)) at = tt
  items_named e (plain (x.Relational fun argument)) at = tt
  items_named e (plain (x.Math fun arg arg1 arg2 arg3)) at = tt
  items_named e (plain (x.As expr kind convert)) at = tt
  items_named e (plain (x.CallResult function)) at = there e (plain (x.CallResult function)) (target.Function function) at refl
  items_named e (plain (x.AtomicResult type comparison)) at = tt
  items_named e (plain (x.WorkGroupUniformLoadResult type)) at = tt
  items_named e (plain (x.ArrayLength array)) at = tt
  items_named e (plain (x.RayQueryVertexPositions query committed)) at = tt
  items_named e (plain x.RayQueryProceedResult) at = tt
  items_named e (plain (x.RayQueryGetIntersection query committed)) at = tt
  items_named e (plain x.SubgroupBallotResult) at = tt
  items_named e (plain (x.SubgroupOperationResult type)) at = tt
  items_named e (plain (x.CooperativeLoad columns rows role block)) at = tt
  items_named e (plain (x.CooperativeMultiplyAdd p q r)) at = tt
