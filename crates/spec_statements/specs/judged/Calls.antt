-- The rules of calls.
use Rattle.std.specs.Prelude.{◌≡◌, ℕ, List, Option, Some, None, IsSome, slice_get}
use Rattle.ir_types.specs.judged.ExpressionPlain.{plain}
use Rattle.ir_types.specs.declared.expressions.Expression.TheVariants as x
use Rattle.spec_expressions.specs.IrItems.{PlainArgument, PlainFunction}
use Rattle.spec_expressions.specs.TypingForms.{form_of_type}
use Rattle.spec_statements.specs.judged.BlockContext.{BlockContext, form_at}

-- a result exactly if the function has one, and it is a `CallResult` of this function
abbrev pub CallResultOK : BlockContext → (function : ℕ) → PlainFunction → (result : Option ℕ) → Type 0
CallResultOK c function callee None = callee.result ≡ None
CallResultOK c function callee (Some result) = IsSome callee.result × (slice_get c.f.expressions result ≡ Some (plain (x.CallResult function)))

-- The arguments have the types that the callee declares. Their number is checked for all calls beforehand.
pub record CallOK (c : BlockContext) (function : ℕ) (arguments : List ℕ) (result : Option ℕ) : Type 0 where
  pub callee : PlainFunction
  pub called : slice_get c.m.functions function ≡ Some callee
  pub passed : (i e : ℕ) (a : PlainArgument) → slice_get arguments i ≡ Some e → slice_get callee.arguments i ≡ Some a
      → form_at c e ≡ form_of_type c.m.types a.ty
  pub answered : CallResultOK c function callee result
