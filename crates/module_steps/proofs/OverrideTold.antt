-- The error of the first invalid override.
use Rattle.std.proofs.Common.{◌≡◌, ◌<◌, ℕ, Bool, length, sym, subst, arith}
use Rattle.module_constants.specs.Overrides.{IsOverrideFault}
use Rattle.module_constants.specs.declared.override_error.OverrideError.{OverrideError}
use Rattle.ir_types.specs.found.Faults.{error_of}
use Rattle.ir_types.specs.declared.refusal.Refusal.{Refusal}
use Rattle.ir_types.specs.declared.refusal.Refusal.TheVariants as refusal
use Rattle.ir_items.specs.judged.Plain.{PlainModule}
use Rattle.module_constants.specs.Refusals.{IsOverrideRefusal}
use Rattle.module_steps.specs.OverrideRefusals.{IsReportedAt, IsRefusal}
use Rattle.module_steps.specs.declared.listed_overrides.InvalidOverride.{InvalidOverride}
use Rattle.spec_expressions.specs.judged.Overrides.{OverrideOK}

-- the error of the first invalid override, as the error of the list
pub refusal_reported : (resolved : Bool) (m : PlainModule) (place handle : ℕ) (r : Refusal OverrideError) (told : Refusal InvalidOverride) → handle ≡ place → place < length m.overrides
    → ((earlier : ℕ) → earlier < place → OverrideOK resolved m earlier) → IsOverrideRefusal resolved m handle r → IsReportedAt handle r told → IsRefusal resolved m told
refusal_reported resolved m place handle (refusal.Memory e) (refusal.Memory d) here lt before wrong same = tt
refusal_reported resolved m place handle (refusal.Memory e) (refusal.Fault g) here lt before wrong same = absurd same
refusal_reported resolved m place handle (refusal.Fault f) (refusal.Memory d) here lt before wrong same = absurd same
refusal_reported resolved m place handle (refusal.Fault f) (refusal.Fault g) here lt before wrong same =
    let at = same.0 in (
      record {
        within = omega (arith, at, here, lt);
        fault = subst (λ h. IsOverrideFault resolved m h (error_of g).error) (sym at) (subst (λ e. IsOverrideFault resolved m handle e) (sym same.1) wrong.0.fault);
        not = subst (λ h. ¬ OverrideOK resolved m h) (sym at) wrong.0.not;
        before = λ earlier less. before earlier (omega (arith, at, here, less));
      },
      same.2,
    )
