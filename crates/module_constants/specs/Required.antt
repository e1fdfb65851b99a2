-- Requirements of global expressions, given their expression kinds.
use Rattle.std.specs.Prelude.{Bool}
use Rattle.module_constants.specs.Expressions.{IsComponentsFault}
use Rattle.typing_errors.specs.declared.const_expressions.ConstExpressionError.{ConstExpressionError}
use Rattle.typing_errors.specs.declared.const_expressions.ConstExpressionError.TheVariants as error
use Rattle.ir_flags.specs.declared.settings.Capabilities.{Capabilities}
use Rattle.ir_items.specs.judged.Plain.{PlainModule}
use Rattle.spec_expressions.specs.judged.GlobalExpressions.{GlobalRequirement, of_literal, of_composition, of_value, must_be_folded, MayWait}
use Rattle.spec_expressions.specs.judged.Context.{outside}
use Rattle.module_type_checks.specs.Widths.{IsLiteralFault}
use Rattle.typing_layout.specs.declared.constness.ExpressionKind.{ExpressionKind}

abbrev pub IsLate : (resolved : Bool) → ExpressionKind → ConstExpressionError → Type 0
IsLate resolved kind error.NonFullyEvaluatedConst = ¬ MayWait resolved kind
IsLate resolved kind _ = ⊥

-- a requirement is not met
abbrev pub IsUnmet : Capabilities → (resolved : Bool) → PlainModule → ExpressionKind → GlobalRequirement → ConstExpressionError → Type 0
IsUnmet capabilities resolved m kind (of_literal value) (error.Literal e) = IsLiteralFault capabilities value e
IsUnmet capabilities resolved m kind (of_literal value) _ = ⊥
IsUnmet capabilities resolved m kind (of_composition type components) (error.Compose e) = IsComponentsFault (outside m) m.global_expressions type components e
IsUnmet capabilities resolved m kind (of_composition type components) _ = ⊥
IsUnmet capabilities resolved m kind of_value e = ⊥
IsUnmet capabilities resolved m kind must_be_folded e = IsLate resolved kind e
