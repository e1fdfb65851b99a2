-- Structs whose members are blend sources.
use Rattle.std.specs.Prelude.{◌≡◌, ◌⊎◌, ℕ, List, Option, Some, None, slice_get, option_and_then}
use Rattle.ir_flags.specs.Sets.{Has}
use Rattle.ir_flags.specs.declared.settings.Capabilities.{Capabilities}
use Rattle.ir_flags.specs.declared.settings.TheConstants.Capabilities.{DUAL_SOURCE_BLENDING}
use Rattle.ir_kinds.specs.declared.bindings.Binding.{Binding}
use Rattle.ir_kinds.specs.declared.bindings.Binding.TheVariants as bound
use Rattle.typing_forms.specs.IrTypes.{PlainMember, PlainInner, struct, plain, PlainType}
use Rattle.typing_forms.specs.judged.Resolutions.{inner_at}
use Rattle.typing_layout.specs.judged.View.{type_tree}
use Rattle.typing_layout.specs.judged.Flags.{HasFlag, IoShareable, blend_source}

abbrev pub binding_location : Option Binding → Option ℕ
binding_location None = None
binding_location (Some (bound.BuiltIn built_in)) = None
binding_location (Some (bound.Location location interpolation sampling source per_primitive)) = Some location

-- the blend source at an index
abbrev pub source_at : List PlainMember → (place : ℕ) → Option ℕ
source_at members place = option_and_then (λ m. blend_source m.binding) (slice_get members place)

abbrev pub HasSource : List PlainMember → Type 0
HasSource members = (place : ℕ) × (source : ℕ) × (source_at members place ≡ Some source)

-- the blend source is at this index, and at no other
pub record IsOnlySource (members : List PlainMember) (source place : ℕ) (m : PlainMember) : Type 0 where
  pub at : slice_get members place ≡ Some m
  pub is : blend_source m.binding ≡ Some source
  pub only : (k : ℕ) → source_at members k ≡ Some source → k ≡ place

-- each member with a location is the first or the second blend source at location 0
abbrev pub BlendLocationOK : PlainMember → Type 0
BlendLocationOK m = (location : ℕ) → binding_location m.binding ≡ Some location → (location ≡ 0) × ((blend_source m.binding ≡ Some 0) ⊎ (blend_source m.binding ≡ Some 1))

-- each blend source occurs once, and their types are equal and may pass between stages
pub record BlendOK (capabilities : Capabilities) (types : List PlainType) (members : List PlainMember) : Type 0 where
  pub capability : Has capabilities.0 DUAL_SOURCE_BLENDING.0
  pub located : (place : ℕ) (m : PlainMember) → slice_get members place ≡ Some m → BlendLocationOK m
  pub first_place : ℕ
  pub second_place : ℕ
  pub first : PlainMember
  pub second : PlainMember
  pub is_first : IsOnlySource members 0 first_place first
  pub is_second : IsOnlySource members 1 second_place second
  pub equal : inner_at types first.ty ≡ inner_at types second.ty
  pub first_shared : HasFlag IoShareable (type_tree types first.ty)
  pub second_shared : HasFlag IoShareable (type_tree types second.ty)

abbrev pub BlendsOK : Capabilities → List PlainType → Option PlainInner → Type 0
BlendsOK capabilities types None = Unit {0}
BlendsOK capabilities types (Some (struct members span)) = HasSource members → BlendOK capabilities types members
BlendsOK capabilities types (Some (plain i)) = Unit {0}
