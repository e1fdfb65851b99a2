-- The errors of global expressions.
use Rattle.std.specs.Prelude.{◌≡◌, ◌≢◌, ℕ, List, Some, Bool, map, slice_get}
use Rattle.module_constants.specs.Compositions.{IsComposeFault}
use Rattle.typing_errors.specs.declared.compose.ComposeError.{ComposeError}
use Rattle.typing_errors.specs.declared.const_expressions.ConstExpressionError.{ConstExpressionError}
use Rattle.typing_errors.specs.declared.const_expressions.ConstExpressionError.TheVariants as error
use Rattle.ir_types.specs.judged.ExpressionPlain.{PlainExpression}
use Rattle.ir_flags.specs.declared.settings.Capabilities.{Capabilities}
use Rattle.ir_items.specs.judged.Plain.{PlainModule}
use Rattle.ir_kinds.specs.declared.values.Literal.{Literal}
use Rattle.typing_rules.specs.judged.Laws.{IsAmong}
use Rattle.spec_expressions.specs.judged.GlobalExpressions.{of_literal, of_composition, must_be_folded, required_of, MayWait}
use Rattle.spec_expressions.specs.judged.Context.{Context, outside}
use Rattle.spec_expressions.specs.judged.Typing.{HasTypeAmong}
use Rattle.module_type_checks.specs.Widths.{IsLiteralFault}
use Rattle.typing_layout.specs.declared.type_error.LiteralError.{LiteralError}
use Rattle.typing_forms.specs.declared.form.Form.{Form}
use Rattle.typing_layout.specs.judged.Constness.{IsOfKind}
use Rattle.typing_layout.specs.declared.constness.ExpressionKind.{ExpressionKind}
use Rattle.typing_layout.specs.declared.constness.ExpressionKind.TheVariants.{Runtime}
use Rattle.typing_errors.specs.Answers.{fault_of, ReportsFault}

-- the types of the components don't compose the type of the `Compose`
pub record IsComponentsFault (context : Context) (expressions : List PlainExpression) (type : ℕ) (components : List ℕ) (e : ComposeError) : Type 0 where
  pub form : ℕ → Form
  pub typed : (component : ℕ) → IsAmong component components → HasTypeAmong context expressions component (form component)
  pub fault : IsComposeFault context.types type (map form components) e

-- the global expression is a `Compose` whose components do not fit
pub record IsBadComposition (m : PlainModule) (handle : ℕ) (e : ComposeError) : Type 0 where
  pub expression : PlainExpression
  pub at : slice_get m.global_expressions handle ≡ Some expression
  pub type : ℕ
  pub components : List ℕ
  pub is : required_of expression ≡ of_composition type components
  pub fault : IsComponentsFault (outside m) m.global_expressions type components e

-- it is a literal that is not allowed
pub record IsBadLiteral (capabilities : Capabilities) (m : PlainModule) (handle : ℕ) (e : LiteralError) : Type 0 where
  pub expression : PlainExpression
  pub at : slice_get m.global_expressions handle ≡ Some expression
  pub value : Literal
  pub is : required_of expression ≡ of_literal value
  pub fault : IsLiteralFault capabilities value e

-- it was not evaluated, and is neither a runtime expression nor an override-expression that may still wait
pub record IsNotWorkedOut (resolved : Bool) (m : PlainModule) (handle : ℕ) : Type 0 where
  pub expression : PlainExpression
  pub at : slice_get m.global_expressions handle ≡ Some expression
  pub is : required_of expression ≡ must_be_folded
  pub kind : ExpressionKind
  pub of_kind : IsOfKind m.global_expressions handle kind
  pub known : kind ≢ Runtime
  pub due : ¬ MayWait resolved kind

-- its type can't be inferred
abbrev pub IsUntyped : PlainModule → (handle : ℕ) → ConstExpressionError → Type 0
IsUntyped m handle error.NonConstOrOverride = ⊥
IsUntyped m handle error.NonFullyEvaluatedConst = ⊥
IsUntyped m handle (error.Compose e) = ⊥
IsUntyped m handle (error.Literal e) = ⊥
IsUntyped m handle (error.Typing e) = ReportsFault (outside m) m.global_expressions handle (fault_of e)
IsUntyped m handle error.Other = ⊥

-- if every expression has a type
abbrev pub IsConstExpressionFault : Capabilities → (resolved : Bool) → PlainModule → (handle : ℕ) → ConstExpressionError → Type 0
IsConstExpressionFault capabilities resolved m handle error.NonConstOrOverride = IsOfKind m.global_expressions handle Runtime
IsConstExpressionFault capabilities resolved m handle error.NonFullyEvaluatedConst = IsNotWorkedOut resolved m handle
IsConstExpressionFault capabilities resolved m handle (error.Compose e) = IsBadComposition m handle e
IsConstExpressionFault capabilities resolved m handle (error.Literal e) = IsBadLiteral capabilities m handle e
IsConstExpressionFault capabilities resolved m handle (error.Typing e) = ⊥
IsConstExpressionFault capabilities resolved m handle error.Other = ⊥
