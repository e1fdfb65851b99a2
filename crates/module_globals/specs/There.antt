-- The preconditions of the check of a global variable.
use Rattle.std.specs.Prelude.{◌≡◌, ◌<◌, ℕ, Some, IfSome, length, slice_get}
use Rattle.ir_items.specs.judged.GlobalPlain.{PlainGlobal}
use Rattle.ir_items.specs.judged.Plain.{PlainModule}
use Rattle.typing_forms.specs.judged.Order.{TypesGoBack}

-- a variable's type and initializer exist
pub record IsPlaced (m : PlainModule) (v : PlainGlobal) : Type 0 where
  pub typed : v.ty < length m.types
  pub begins : IfSome v.init (λ e. e < length m.global_expressions)

-- The variable exists, with its type and initializer, and types reference only earlier types.
pub record IsThere (m : PlainModule) (handle : ℕ) : Type 0 where
  pub variable : PlainGlobal
  pub at : slice_get m.globals handle ≡ Some variable
  pub placed : IsPlaced m variable
  pub back : TypesGoBack m.types
