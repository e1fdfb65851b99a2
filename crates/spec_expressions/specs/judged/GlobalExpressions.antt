-- Which global expressions are valid under given capabilities, if each has a type.
use Rattle.std.specs.Prelude.{◌≡◌, ◌≢◌, ℕ, List, Some, Bool, false, slice_get}
use Rattle.typing_layout.specs.IrTypes.{PlainExpression, compose, plain_expression as plain}
use Rattle.typing_layout.specs.IrTypes.x as x
use Rattle.ir_flags.specs.declared.settings.Capabilities.{Capabilities}
use Rattle.ir_items.specs.judged.Plain.{PlainModule}
use Rattle.ir_kinds.specs.declared.values.Literal.{Literal}
use Rattle.spec_expressions.specs.judged.Compose.{ComponentsOK}
use Rattle.spec_expressions.specs.judged.LiteralScalars.{LiteralOK}
use Rattle.spec_expressions.specs.judged.Context.{outside}
use Rattle.typing_layout.specs.judged.Constness.{IsOfKind}
use Rattle.typing_layout.specs.declared.constness.ExpressionKind.{ExpressionKind}
use Rattle.typing_layout.specs.declared.constness.ExpressionKind.TheVariants.{Const, Override, Runtime}

-- The requirements of a global expression besides its type.
pub data GlobalRequirement : Type 0 where
  -- the literal is valid
  of_literal : Literal → GlobalRequirement
  -- the components make a value of the type
  of_composition : (type : ℕ) → (components : List ℕ) → GlobalRequirement
  -- no requirement
  of_value : GlobalRequirement
  -- it must be evaluated as soon as its operands are const
  must_be_folded : GlobalRequirement

abbrev pub required_of : PlainExpression → GlobalRequirement
required_of (compose type components) = of_composition type components
required_of (plain (x.Literal value)) = of_literal value
required_of (plain (x.Constant constant)) = of_value
required_of (plain (x.Override override)) = of_value
required_of (plain (x.ZeroValue type)) = of_value
required_of (plain (x.Compose type components)) = of_composition type components.items
required_of (plain (x.Splat size value)) = of_value
required_of _ = must_be_folded

-- an unevaluated expression is allowed if it is override and overrides are not yet resolved
abbrev pub MayWait : (resolved : Bool) → ExpressionKind → Type 0
MayWait resolved k = elim k [ Const ↦ ⊥ | Override ↦ resolved ≡ false | Runtime ↦ ⊥ ]

abbrev pub IsMet : Capabilities → (resolved : Bool) → PlainModule → ExpressionKind → GlobalRequirement → Type 0
IsMet capabilities resolved m kind (of_literal value) = LiteralOK capabilities value
IsMet capabilities resolved m kind (of_composition type components) = ComponentsOK (outside m) m.global_expressions type components
IsMet capabilities resolved m kind of_value = Unit {0}
IsMet capabilities resolved m kind must_be_folded = MayWait resolved kind

-- The global expression at a handle: it is const or override, and its requirement is met.
pub record GlobalExpressionOK (capabilities : Capabilities) (resolved : Bool) (m : PlainModule) (handle : ℕ) : Type 0 where
  pub expression : PlainExpression
  pub at : slice_get m.global_expressions handle ≡ Some expression
  pub kind : ExpressionKind
  pub of_kind : IsOfKind m.global_expressions handle kind
  pub known : kind ≢ Runtime
  pub met : IsMet capabilities resolved m kind (required_of expression)
