-- The context of the checks of an expression.
use Rattle.std.specs.Prelude.{◌≡◌, ℕ, List, Some, length, slice_get, unwrap_or}
use Rattle.ir_types.specs.judged.ExpressionPlain.{PlainExpression}
use Rattle.ir_flags.specs.declared.settings.Capabilities.{Capabilities}
use Rattle.spec_expressions.specs.IrItems.{PlainFunction, PlainModule}
use Rattle.ir_types.specs.judged.Plain.{PlainType}
use Rattle.spec_expressions.specs.TypingForms.{Form}
use Rattle.spec_expressions.specs.TypingForms.form as form
use Rattle.spec_expressions.specs.judged.Context.{Context}
use Rattle.spec_expressions.specs.judged.Typing.{HasTypeAmong}

-- The capabilities, the module's types, the list of expressions that contains it, and the canonical forms of their types.
pub record Scene : Type 0 where
  pub capabilities : Capabilities
  pub types : List PlainType
  pub expressions : List PlainExpression
  pub forms : List Form

-- the form of the type of an expression
abbrev pub form_among : (forms : List Form) → ℕ → Form
form_among forms place = unwrap_or (slice_get forms place) form.Nothing

-- in a function of a module
abbrev pub scene_of : Capabilities → PlainModule → PlainFunction → List Form → Scene
scene_of capabilities m f forms = record { capabilities = capabilities; types = m.types; expressions = f.expressions; forms = forms }

-- among the module's global expressions
abbrev pub global_scene : Capabilities → PlainModule → List Form → Scene
global_scene capabilities m forms = record { capabilities = capabilities; types = m.types; expressions = m.global_expressions; forms = forms }

-- the forms are those of the types of all expressions
pub record AreForms (c : Context) (expressions : List PlainExpression) (forms : List Form) : Type 0 where
  pub many : length forms ≡ length expressions
  pub each : (place : ℕ) (t : Form) → slice_get forms place ≡ Some t → HasTypeAmong c expressions place t
