-- The `TypeInfo`s of the valid types of a module.
use Rattle.std.specs.Prelude.{◌≡◌, ℕ, List, Bool, Some, length, slice_get}
use Rattle.ir_flags.specs.declared.settings.Capabilities.{Capabilities}
use Rattle.ir_types.specs.judged.Plain.{PlainType}
use Rattle.typing_layout.specs.judged.Rules.{TypeOK}
use Rattle.typing_layout.specs.judged.View.{type_tree}
use Rattle.typing_layout.specs.found.Infos.{HasInfo}
use Rattle.typing_layout.specs.declared.info.TypeInfo.{TypeInfo}

-- the type at a handle is valid, and this is its `TypeInfo`
pub record IsAccepted (capabilities : Capabilities) (resolved : Bool) (types : List PlainType) (handle : ℕ) (i : TypeInfo) : Type 0 where
  pub ok : TypeOK capabilities resolved types handle
  pub info : HasInfo types (type_tree types handle) i

-- the first `n` types are valid, and these are their `TypeInfo`s
pub record AreAcceptedBelow (capabilities : Capabilities) (resolved : Bool) (types : List PlainType) (infos : List TypeInfo) (place : ℕ) : Type 0 where
  pub many : length infos ≡ place
  pub each : (handle : ℕ) (i : TypeInfo) → slice_get infos handle ≡ Some i → IsAccepted capabilities resolved types handle i

abbrev pub AreAccepted : Capabilities → (resolved : Bool) → List PlainType → List TypeInfo → Type 0
AreAccepted capabilities resolved types infos = AreAcceptedBelow capabilities resolved types infos (length types)
