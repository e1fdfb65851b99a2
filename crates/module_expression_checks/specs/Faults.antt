-- The errors of `Literal` and `Compose`.
use Rattle.std.specs.Prelude.{ℕ, List}
use Rattle.module_constants.specs.Compositions.{IsComposeFault}
use Rattle.typing_errors.specs.declared.expressions.ExpressionError.{ExpressionError}
use Rattle.typing_errors.specs.declared.expressions.ExpressionError.TheVariants as error
use Rattle.ir_flags.specs.declared.settings.Capabilities.{Capabilities}
use Rattle.ir_kinds.specs.declared.values.Literal.{Literal}
use Rattle.ir_types.specs.judged.Plain.{PlainType}
use Rattle.module_type_checks.specs.Widths.{IsLiteralFault}
use Rattle.typing_forms.specs.declared.form.Form.{Form}

-- the literal is invalid
abbrev pub IsBadLiteral : Capabilities → Literal → ExpressionError → Type 0
IsBadLiteral capabilities value (error.Literal e) = IsLiteralFault capabilities value e
IsBadLiteral capabilities value _ = ⊥

-- values of these forms don't compose one of the type
abbrev pub IsBadComposition : List PlainType → (type : ℕ) → List Form → ExpressionError → Type 0
IsBadComposition types type forms (error.Compose e) = IsComposeFault types type forms e
IsBadComposition types type forms _ = ⊥
