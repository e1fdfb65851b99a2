-- The result of the uniformity check of a function.
use Rattle.std.specs.Prelude.{◌≡◌, Option, Some, None}
use Rattle.ir_flags.specs.declared.settings.ValidationFlags.{ValidationFlags}
use Rattle.ir_items.specs.judged.Plain.{PlainFunction, PlainModule}
use Rattle.spec_expressions.specs.judged.Faults.{FunctionFault}
use Rattle.spec_expressions.specs.judged.Uniformity.{Required}
use Rattle.typing_uniformity.specs.Requiring.{required_view}
use Rattle.typing_uniformity.specs.declared.body_fault.NonUniform.{NonUniform}

-- the result for a function: a fault, or none
pub record IsAnswer (flags : ValidationFlags) (m : PlainModule) (f : PlainFunction) (found : Option NonUniform) : Type 0 where
  pub fault : (u : NonUniform) → found ≡ Some u → FunctionFault flags m f (required_view u)
  pub clear : found ≡ None → (x : Required) → FunctionFault flags m f x → ⊥
