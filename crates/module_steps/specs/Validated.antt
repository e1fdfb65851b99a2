-- The errors of the check of a module's types.
use Rattle.std.specs.Prelude.{◌≡◌, ◌<◌, ℕ, List, [], Some, Bool, length}
use Rattle.ir_types.specs.found.Faults.{error_of, spans_of}
use Rattle.ir_types.specs.declared.refusal.Refusal.{Refusal}
use Rattle.ir_types.specs.declared.refusal.Refusal.TheVariants as refusal
use Rattle.ir_flags.specs.declared.settings.Capabilities.{Capabilities}
use Rattle.ir_types.specs.judged.Plain.{PlainInner, PlainType}
use Rattle.module_steps.specs.declared.validate.InvalidType.{InvalidType}
use Rattle.typing_layout.specs.judged.Rules.{TypeOK}
use Rattle.typing_layout.specs.found.Faults.{IsInnerFault}
use Rattle.typing_layout.specs.declared.type_error.TypeError.{TypeError}
use Rattle.typing_forms.specs.judged.Resolutions.{inner_at}

-- it has an error, and is invalid
pub record IsRefusedFor (capabilities : Capabilities) (resolved : Bool) (types : List PlainType) (handle : ℕ) (e : TypeError) : Type 0 where
  pub i : PlainInner
  pub at : inner_at types handle ≡ Some i
  pub fault : IsInnerFault capabilities resolved types handle i e
  pub not : ¬ TypeOK capabilities resolved types handle

abbrev pub IsNextRefused : Capabilities → (resolved : Bool) → List PlainType → (handle : ℕ) → InvalidType → Type 0
IsNextRefused capabilities resolved types handle e = (e.ty ≡ handle) × IsRefusedFor capabilities resolved types handle e.error

-- it is the first invalid type
pub record IsFirstRefused (capabilities : Capabilities) (resolved : Bool) (types : List PlainType) (e : InvalidType) : Type 0 where
  pub within : e.ty < length types
  pub fault : IsRefusedFor capabilities resolved types e.ty e.error
  pub before : (handle : ℕ) → handle < e.ty → TypeOK capabilities resolved types handle

-- a type is invalid, or out of memory
abbrev pub IsRefusal : Capabilities → (resolved : Bool) → List PlainType → Refusal InvalidType → Type 0
IsRefusal capabilities resolved types (refusal.Memory e) = Unit {0}
IsRefusal capabilities resolved types (refusal.Fault f) = IsFirstRefused capabilities resolved types (error_of f) × (spans_of f ≡ [])
