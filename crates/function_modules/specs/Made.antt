-- The information on a module is that of this one, whose handles are in order.
use Rattle.std.specs.Prelude.{List, map}
use Rattle.spec_expressions.specs.declared.expression_info.ExpressionInfo.{ExpressionInfo}
use Rattle.typing_infos.specs.declared.function_info.FunctionInfo.{FunctionInfo}
use Rattle.function_whole.specs.FunctionInterface.{AreReported}
use Rattle.ir_items.specs.judged.Plain.{PlainModule}
use Rattle.typing_infos.specs.declared.info.ModuleInfo.{ModuleInfo}
use Rattle.spec_expressions.specs.judged.Context.{outside}
use Rattle.spec_expressions.specs.judged.ModuleHandles.{HandlesOK}
use Rattle.typing_infos.specs.Types.{AreTypes}
use Rattle.typing_forms.specs.declared.resolution.TypeResolution.{TypeResolution}

-- the handles of the module are in order; it has the `TypeInfo`s of all its types, and the types of all its global expressions
pub record IsMadeOf (m : PlainModule) (info : ModuleInfo) : Type 0 where
  pub handles : HandlesOK m
  pub told : AreReported m.types info.types.items
  pub typed : AreTypes (outside m) m.global_expressions info.const_expression_types.items

-- the types of the expressions of a function
abbrev pub types_of : FunctionInfo → List TypeResolution
types_of info = map (λ (i : ExpressionInfo). i.ty) info.expressions.items
