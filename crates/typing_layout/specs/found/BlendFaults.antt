-- Why members can't be blend sources.
use Rattle.std.specs.Prelude.{◌≡◌, ◌≢◌, ◌⊎◌, ℕ, List, Some, None, slice_get}
use Rattle.ir_flags.specs.Sets.{Has}
use Rattle.ir_flags.specs.declared.settings.Capabilities.{Capabilities}
use Rattle.ir_flags.specs.declared.settings.TheConstants.Capabilities.{DUAL_SOURCE_BLENDING}
use Rattle.typing_forms.specs.IrTypes.{PlainMember, PlainType}
use Rattle.typing_layout.specs.judged.Blends.{binding_location, source_at, HasSource}
use Rattle.typing_layout.specs.judged.Flags.{HasFlag, IoShareable, blend_source}
use Rattle.typing_layout.specs.judged.View.{type_tree}
use Rattle.typing_forms.specs.judged.Resolutions.{inner_at}
use Rattle.typing_layout.specs.declared.type_error.TypeError.{TypeError}
use Rattle.typing_layout.specs.declared.type_error.TypeError.TheVariants as error
use Rattle.typing_layout.specs.declared.type_error.VaryingError.{VaryingError}
use Rattle.typing_layout.specs.declared.type_error.VaryingError.TheVariants as varying

-- a member is this blend source, and has this type
pub record IsSource (members : List PlainMember) (source ty : ℕ) : Type 0 where
  pub place : ℕ
  pub m : PlainMember
  pub at : slice_get members place ≡ Some m
  pub is : blend_source m.binding ≡ Some source
  pub of : ty ≡ m.ty

-- a member has this location
pub record IsLocated (members : List PlainMember) (location : ℕ) (m : PlainMember) : Type 0 where
  pub place : ℕ
  pub at : slice_get members place ≡ Some m
  pub is : binding_location m.binding ≡ Some location

-- two members are this blend source
pub record IsTwice (members : List PlainMember) (source : ℕ) : Type 0 where
  pub first : ℕ
  pub second : ℕ
  pub apart : first ≢ second
  pub at_first : source_at members first ≡ Some source
  pub at_second : source_at members second ≡ Some source

abbrev pub IsAbsent : List PlainMember → (source : ℕ) → Type 0
IsAbsent members source = (k : ℕ) → source_at members k ≢ Some source

-- one of the two blend sources is present, and not the other
abbrev pub IsAlone : List PlainMember → (present : ℕ) → Type 0
IsAlone members present = ((place : ℕ) × (source_at members place ≡ Some present)) × (((present ≡ 0) × IsAbsent members 1) ⊎ ((present ≡ 1) × IsAbsent members 0))

abbrev pub IsVaryingFault : List PlainType → List PlainMember → VaryingError → Type 0
IsVaryingFault types members (varying.NotIOShareableType ty) = ((source : ℕ) × IsSource members source ty) × ¬ HasFlag IoShareable (type_tree types ty)
IsVaryingFault types members (varying.BindingCollisionBlendSrc source) = IsTwice members source
IsVaryingFault types members (varying.InvalidBlendSrcIndex location source) =
    (m : PlainMember) × IsLocated members location m × (blend_source m.binding ≡ Some source) × ((location ≢ 0) ⊎ ((source ≢ 0) × (source ≢ 1)))
IsVaryingFault types members (varying.IncompleteBlendSrcUsage present) = IsAlone members present
IsVaryingFault types members (varying.InvalidBlendSrcWithOtherBindings location) = (m : PlainMember) × IsLocated members location m × (blend_source m.binding ≡ None)
IsVaryingFault types members (varying.BlendSrcOutputTypeMismatch first second) =
    IsSource members 0 first × IsSource members 1 second × (inner_at types first ≢ inner_at types second)

-- members are blend sources, and they are invalid
abbrev pub IsBlendFault : Capabilities → List PlainType → List PlainMember → TypeError → Type 0
IsBlendFault capabilities types members (error.MissingCapability c) = HasSource members × (c ≡ DUAL_SOURCE_BLENDING) × ¬ Has capabilities.0 c.0
IsBlendFault capabilities types members (error.InvalidBlendSrc e) = HasSource members × IsVaryingFault types members e
IsBlendFault capabilities types members _ = ⊥
