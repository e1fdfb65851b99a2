-- Laws of the checks.
use Rattle.std.specs.Prelude.{◌≡◌, ℕ, List}
use Rattle.ir_types.specs.judged.ExpressionPlain.{PlainExpression}
use Rattle.ir_flags.specs.Sets.{IsWithin}
use Rattle.ir_flags.specs.declared.settings.Capabilities.{Capabilities}
use Rattle.ir_types.specs.judged.Plain.{PlainType}
use Rattle.spec_expressions.specs.TypingForms.{Form}
use Rattle.spec_expressions.specs.judged.Context.{Context}
use Rattle.spec_statements.specs.judged.Expressions.{ExpressionOK}
use Rattle.spec_statements.specs.judged.Scene.{Scene, AreForms}

-- the scene of an expression, under capabilities
abbrev pub under : Capabilities → List PlainType → List PlainExpression → List Form → Scene
under capabilities types expressions forms = record { capabilities = capabilities; types = types; expressions = expressions; forms = forms }

-- what a smaller set of capabilities accepts, a larger one accepts
abbrev pub MoreCapabilities : Type 0
MoreCapabilities =
    (few many : Capabilities) → IsWithin few.0 many.0 → (types : List PlainType) (expressions : List PlainExpression) (forms : List Form) (handle : ℕ)
    → ExpressionOK (under few types expressions forms) handle → ExpressionOK (under many types expressions forms) handle

-- the list of forms of the types of expressions is unique
abbrev pub OneList : Type 0
OneList =
    (c : Context) (expressions : List PlainExpression) (left right : List Form) → AreForms c expressions left → AreForms c expressions right → left ≡ right
