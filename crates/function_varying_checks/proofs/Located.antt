-- A value at a location, by the steps of its check.
use Rattle.std.proofs.Common.{◌≡◌, ℕ, Some, Result, Ok, Err, MatchResult}
use Rattle.ir_flags.specs.Sets.{Has}
use Rattle.ir_flags.specs.declared.settings.TheConstants.Capabilities.{MULTISAMPLED_SHADING}
use Rattle.ir_kinds.specs.declared.bindings.Sampling.TheVariants.{Sample}
use Rattle.spec_interface.specs.judged.Contexts.{VaryingContext}
use Rattle.spec_interface.specs.judged.Locations.{LocationOK}
use Rattle.spec_interface.specs.declared.varyings.Location.{Location}
use Rattle.function_varying_checks.specs.Faults.{IsLocationFault}
use Rattle.function_varying_checks.specs.Steps.{AreCombined, IsKept, IsSpread, ValueOK}
use Rattle.function_varying_checks.specs.declared.error.VaryingError.{VaryingError}

pub located : (c : VaryingContext) (type : ℕ) (l : Location) (element : ℕ) → IsSpread c type l element → IsKept c element l → AreCombined l
    → (l.sampling ≡ Some Sample → Has c.capabilities.0 MULTISAMPLED_SHADING.0) → (r : Result (Unit {0}) VaryingError)
    → MatchResult r (λ _. ValueOK c type l) (IsLocationFault c type l) → MatchResult r (λ _. LocationOK c type l) (IsLocationFault c type l)
located c type l element spread kept combined samples (Ok u) value = record {
  capable = spread.capable;
  primitive = kept.primitive;
  vertices = spread.vertices;
  element = element;
  counts = spread.counts;
  shared = kept.shared;
  value = value;
  alone = kept.alone;
  sampled = combined;
  multisampled = samples;
}
located c type l element spread kept combined samples (Err e) wrong = wrong
