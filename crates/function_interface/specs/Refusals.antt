-- How a broken rule is refused.
use Rattle.std.specs.Prelude.{◌≡◌, []}
use Rattle.typing_errors.specs.declared.error.FunctionError.{FunctionError}
use Rattle.ir_types.specs.found.Faults.{error_of, spans_of}
use Rattle.ir_types.specs.declared.refusal.Refusal.{Refusal}
use Rattle.ir_types.specs.declared.refusal.Refusal.TheVariants as refusal

-- the error's condition holds; or there was no memory for its name, but the rule is broken
abbrev pub IsRefusal : (Rule : Type 0) → (IsFault : FunctionError → Type 0) → Refusal FunctionError → Type 0
IsRefusal Rule IsFault (refusal.Memory e) = ¬ Rule
IsRefusal Rule IsFault (refusal.Fault e) = IsFault (error_of e) × (spans_of e ≡ [])
