-- Blend sources, step by step.
use Rattle.std.specs.Prelude.{◌≡◌, ◌≢◌, ◌⊎◌, ◌<◌, ℕ, List, Option, Some, None, length, slice_get}
use Rattle.ir_types.specs.judged.Plain.{PlainMember}
use Rattle.typing_layout.specs.judged.Blends.{binding_location, source_at, BlendLocationOK, IsOnlySource}
use Rattle.typing_layout.specs.judged.Flags.{HasFlag, IoShareable, blend_source}
use Rattle.module_type_checks.specs.Known.{types_in, tree_in}
use Rattle.module_type_checks.specs.declared.context.TypeContext.{TypeContext}
use Rattle.typing_layout.specs.found.BlendFaults.{IsTwice, IsAbsent}
use Rattle.typing_layout.specs.declared.type_error.VaryingError.{VaryingError}
use Rattle.typing_layout.specs.declared.type_error.VaryingError.TheVariants as varying
use Rattle.typing_layout.specs.TypingForms.{inner_at}

abbrev pub IsLocationFault : PlainMember → VaryingError → Type 0
IsLocationFault m (varying.InvalidBlendSrcIndex location source) =
    (binding_location m.binding ≡ Some location) × (blend_source m.binding ≡ Some source) × ((location ≢ 0) ⊎ ((source ≢ 0) × (source ≢ 1)))
IsLocationFault m (varying.InvalidBlendSrcWithOtherBindings location) = (binding_location m.binding ≡ Some location) × (blend_source m.binding ≡ None)
IsLocationFault m _ = ⊥

abbrev pub AreLocated : List PlainMember → Type 0
AreLocated members = (place : ℕ) (m : PlainMember) → slice_get members place ≡ Some m → BlendLocationOK m

pub record IsLocationFaultIn (members : List PlainMember) (e : VaryingError) : Type 0 where
  pub place : ℕ
  pub m : PlainMember
  pub at : slice_get members place ≡ Some m
  pub fault : IsLocationFault m e

-- the only index below a bound of a member with this blend source, if there is one
abbrev pub IsSoleBelow : List PlainMember → (source : ℕ) → Option ℕ → (bound : ℕ) → Type 0
IsSoleBelow members source None bound = (k : ℕ) → k < bound → source_at members k ≢ Some source
IsSoleBelow members source (Some place) bound = (place < bound) × (source_at members place ≡ Some source) × ((k : ℕ) → k < bound → source_at members k ≡ Some source → k ≡ place)

-- the only index of a member with this blend source, if there is one
abbrev pub IsSole : List PlainMember → (source : ℕ) → Option ℕ → Type 0
IsSole members source None = IsAbsent members source
IsSole members source (Some place) = (place < length members) × (source_at members place ≡ Some source) × ((k : ℕ) → source_at members k ≡ Some source → k ≡ place)

-- the type of the only member with this blend source
pub record IsOnlyType (members : List PlainMember) (source ty : ℕ) : Type 0 where
  pub place : ℕ
  pub m : PlainMember
  pub is : IsOnlySource members source place m
  pub of : ty ≡ m.ty

abbrev pub IsCollision : List PlainMember → (source : ℕ) → VaryingError → Type 0
IsCollision members source e = (e ≡ varying.BindingCollisionBlendSrc source) × IsTwice members source

-- two types have equal `TypeInner`s, and are IO-shareable
pub record PairOK (c : TypeContext) (first second : ℕ) : Type 0 where
  pub equal : inner_at (types_in c) first ≡ inner_at (types_in c) second
  pub first_shared : HasFlag IoShareable (tree_in c first)
  pub second_shared : HasFlag IoShareable (tree_in c second)

abbrev pub IsPairFault : TypeContext → (first second : ℕ) → VaryingError → Type 0
IsPairFault c first second (varying.NotIOShareableType ty) = ((ty ≡ first) ⊎ (ty ≡ second)) × ¬ HasFlag IoShareable (tree_in c ty)
IsPairFault c first second (varying.BlendSrcOutputTypeMismatch a b) = (a ≡ first) × (b ≡ second) × (inner_at (types_in c) first ≢ inner_at (types_in c) second)
IsPairFault c first second _ = ⊥

-- each blend source occurs once, their types match, and no other member has a location
pub record SourcesOK (c : TypeContext) (members : List PlainMember) : Type 0 where
  pub located : AreLocated members
  pub first_place : ℕ
  pub second_place : ℕ
  pub first : PlainMember
  pub second : PlainMember
  pub is_first : IsOnlySource members 0 first_place first
  pub is_second : IsOnlySource members 1 second_place second
  pub pair : PairOK c first.ty second.ty
