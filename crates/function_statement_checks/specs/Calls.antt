-- Errors of calls.
use Rattle.std.specs.Prelude.{◌≡◌, ℕ, ◌<◌, List, Option, Some, slice_get}
use Rattle.typing_errors.specs.declared.error.FunctionError.{FunctionError}
use Rattle.typing_errors.specs.declared.error.FunctionError.TheVariants as error
use Rattle.typing_errors.specs.declared.calls.CallError.{CallError}
use Rattle.typing_errors.specs.declared.calls.CallError.TheVariants.{ArgumentType, ExpressionMismatch}
use Rattle.ir_items.specs.judged.Plain.{PlainArgument, PlainFunction}
use Rattle.spec_statements.specs.judged.BlockContext.{BlockContext, form_at}
use Rattle.spec_statements.specs.judged.Calls.{CallResultOK}
use Rattle.typing_forms.specs.judged.Forms.{form_of_type}

-- the argument at an index has the declared type
abbrev pub PassesAt : BlockContext → PlainFunction → (arguments : List ℕ) → (place : ℕ) → Type 0
PassesAt c callee arguments place =
    (e : ℕ) (a : PlainArgument) → slice_get arguments place ≡ Some e → slice_get callee.arguments place ≡ Some a → form_at c e ≡ form_of_type c.m.types a.ty

-- so has each before an index
pub record PassesBelow (c : BlockContext) (callee : PlainFunction) (arguments : List ℕ) (place : ℕ) : Type 0 where
  pub each : (k : ℕ) → k < place → PassesAt c callee arguments k

-- it has another type
pub record IsArgumentFault (c : BlockContext) (callee : PlainFunction) (arguments : List ℕ) (place required seen : ℕ) : Type 0 where
  pub argument : PlainArgument
  pub passed : slice_get arguments place ≡ Some seen
  pub declared : slice_get callee.arguments place ≡ Some argument
  pub ty : argument.ty ≡ required
  pub differs : ¬ (form_at c seen ≡ form_of_type c.m.types required)

abbrev pub IsCallError : BlockContext → (function : ℕ) → PlainFunction → (arguments : List ℕ) → (result : Option ℕ) → CallError → Type 0
IsCallError c function callee arguments result (ArgumentType place required seen) = IsArgumentFault c callee arguments place required seen
IsCallError c function callee arguments result (ExpressionMismatch e) = (e ≡ result) × ¬ CallResultOK c function callee result
IsCallError c function callee arguments result _ = ⊥

-- the callee, and the error
pub record IsCallFaultOf (c : BlockContext) (function : ℕ) (arguments : List ℕ) (result : Option ℕ) (called : ℕ) (e : CallError) : Type 0 where
  pub same : called ≡ function
  pub callee : PlainFunction
  pub found : slice_get c.m.functions function ≡ Some callee
  pub wrong : IsCallError c function callee arguments result e

abbrev pub IsCallFault : BlockContext → (function : ℕ) → (arguments : List ℕ) → (result : Option ℕ) → FunctionError → Type 0
IsCallFault c function arguments result (error.InvalidCall called e) = IsCallFaultOf c function arguments result called e
IsCallFault c function arguments result _ = ⊥
