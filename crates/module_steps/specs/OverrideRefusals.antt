-- The error of the check of a module's overrides.
use Rattle.std.specs.Prelude.{◌≡◌, ℕ, [], Bool, length}
use Rattle.module_constants.specs.Overrides.{IsOverrideFault}
use Rattle.module_constants.specs.declared.override_error.OverrideError.{OverrideError}
use Rattle.ir_types.specs.found.Faults.{error_of, spans_of}
use Rattle.ir_types.specs.declared.refusal.Refusal.{Refusal}
use Rattle.ir_types.specs.declared.refusal.Refusal.TheVariants as refusal
use Rattle.ir_items.specs.judged.Plain.{PlainModule}
use Rattle.module_constants.specs.Firsts.{IsFirstRefused}
use Rattle.module_steps.specs.declared.listed_overrides.InvalidOverride.{InvalidOverride}
use Rattle.spec_expressions.specs.judged.Overrides.{OverrideOK}

-- the error is that of the override at a handle
abbrev pub IsReportedAt : (handle : ℕ) → Refusal OverrideError → Refusal InvalidOverride → Type 0
IsReportedAt handle (refusal.Memory e) (refusal.Memory d) = Unit {0}
IsReportedAt handle (refusal.Memory e) (refusal.Fault g) = ⊥
IsReportedAt handle (refusal.Fault f) (refusal.Memory d) = ⊥
IsReportedAt handle (refusal.Fault f) (refusal.Fault g) = ((error_of g).id ≡ handle) × ((error_of g).error ≡ error_of f) × (spans_of g ≡ [])

-- an override is invalid, or out of memory
abbrev pub IsRefusal : (resolved : Bool) → PlainModule → Refusal InvalidOverride → Type 0
IsRefusal resolved m (refusal.Memory e) = Unit {0}
IsRefusal resolved m (refusal.Fault f) =
    IsFirstRefused (OverrideOK resolved m) (λ handle. IsOverrideFault resolved m handle (error_of f).error) (length m.overrides) (error_of f).id × (spans_of f ≡ [])
