-- Which overrides are valid.
use Rattle.std.specs.Prelude.{◌≡◌, ◌<◌, ◌⊎◌, ℕ, List, [], ◌∷◌, Option, Some, None, Bool, false, Contains, IsSome, slice_get}
use Rattle.ir_items.specs.judged.GlobalPlain.{PlainOverride}
use Rattle.ir_items.specs.judged.Plain.{PlainModule}
use Rattle.ir_kinds.specs.judged.Scalars.{boolean, signed, unsigned, floating}
use Rattle.ir_kinds.specs.declared.scalars.Scalar.{Scalar}
use Rattle.typing_layout.specs.IrTypes.{PlainType, plain}
use Rattle.typing_layout.specs.IrTypes.inner as inner
use Rattle.spec_expressions.specs.judged.Typing.{HasGlobalType}
use Rattle.typing_layout.specs.TypingForms.{form_of_type, inner_at}
use Rattle.typing_layout.specs.judged.Constness.{IsOfKind}
use Rattle.typing_layout.specs.declared.constness.ExpressionKind.TheVariants as kind

-- the scalars that a pipeline may supply
abbrev pub override_scalars : List Scalar
override_scalars = boolean ∷ signed 4 ∷ unsigned 4 ∷ floating 2 ∷ floating 4 ∷ floating 8 ∷ []

-- the type at a handle is one of these scalars
pub record IsOverrideType (types : List PlainType) (type : ℕ) : Type 0 where
  pub scalar : Scalar
  pub at : inner_at types type ≡ Some (plain (inner.Scalar scalar))
  pub among : Contains override_scalars scalar

-- an earlier override has this id
pub record IsTaken (overrides : List PlainOverride) (place id : ℕ) : Type 0 where
  pub earlier : ℕ
  pub before : earlier < place
  pub override : PlainOverride
  pub at : slice_get overrides earlier ≡ Some override
  pub has : override.id ≡ Some id

-- a global expression that is const or override
abbrev pub IsKnownByOverrides : PlainModule → (handle : ℕ) → Type 0
IsKnownByOverrides m handle = IsOfKind m.global_expressions handle kind.Const ⊎ IsOfKind m.global_expressions handle kind.Override

-- the initializer of an override of a type is valid; if overrides are resolved, each has one
abbrev pub DefaultOK : (resolved : Bool) → PlainModule → (type : ℕ) → Option ℕ → Type 0
DefaultOK resolved m type None = resolved ≡ false
DefaultOK resolved m type (Some init) = IsKnownByOverrides m init × HasGlobalType m init (form_of_type m.types type)

-- The override at a handle: it can be identified by a name, or by an id that none before it has, and it has a scalar type that
-- a pipeline may supply.
pub record OverrideOK (resolved : Bool) (m : PlainModule) (handle : ℕ) : Type 0 where
  pub override : PlainOverride
  pub at : slice_get m.overrides handle ≡ Some override
  pub named : IsSome override.name ⊎ IsSome override.id
  pub own : (id : ℕ) → override.id ≡ Some id → ¬ IsTaken m.overrides handle id
  pub scalar : IsOverrideType m.types override.ty
  pub default : DefaultOK resolved m override.ty override.init
