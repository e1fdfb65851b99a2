-- Laws of the steps.
use Rattle.std.specs.Prelude.{◌≡◌, ℕ, Bool}
use Rattle.ir_flags.specs.Sets.{IsWithin}
use Rattle.ir_items.specs.judged.Plain.{PlainModule}
use Rattle.judgement.specs.judged.ModuleSteps.{ModuleStep, ModuleOK, IsFirstFailing}
use Rattle.ir_flags.specs.declared.settings.Settings.{Settings}

-- the flags are equal, and the capabilities of one are a subset of the other's
pub record MayUseMore (few many : Settings) : Type 0 where
  pub flags : few.flags ≡ many.flags
  pub within : IsWithin few.capabilities.0 many.capabilities.0

-- what is valid with fewer capabilities is valid with more
abbrev pub MoreCapabilities : Type 0
MoreCapabilities = (few many : Settings) (resolved : Bool) (m : PlainModule) → MayUseMore few many → ModuleOK few resolved m → ModuleOK many resolved m

-- at most one step and one index fail first
abbrev pub OneFailure : Type 0
OneFailure = (s : Settings) (resolved : Bool) (m : PlainModule) (step other : ModuleStep) (index place : ℕ) → IsFirstFailing s resolved m step index → IsFirstFailing s resolved m other place
    → (step ≡ other) × (index ≡ place)

-- a module with a failing step is invalid
abbrev pub NoneFails : Type 0
NoneFails = (s : Settings) (resolved : Bool) (m : PlainModule) (step : ModuleStep) (index : ℕ) → IsFirstFailing s resolved m step index → ¬ ModuleOK s resolved m
