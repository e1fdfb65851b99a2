-- The check of a global variable over a layer.
use Rattle.std.specs.Prelude.{◌≡◌, [], ℕ, Some, slice_get}
use Rattle.module_globals.specs.declared.error.GlobalVariableError.{GlobalVariableError}
use Rattle.ir_types.specs.found.Faults.{error_of, spans_of}
use Rattle.ir_types.specs.declared.refusal.Refusal.{Refusal}
use Rattle.ir_types.specs.declared.refusal.Refusal.TheVariants as refusal
use Rattle.ir_items.specs.judged.GlobalPlain.{PlainGlobal}
use Rattle.ir_items.specs.judged.Plain.{PlainModule}

-- the variable is one of the module's
abbrev pub IsVariableOf : PlainModule → PlainGlobal → Type 0
IsVariableOf m v = (handle : ℕ) × (slice_get m.globals handle ≡ Some v)

-- out of memory, or an error of this kind, without spans
abbrev pub IsRefusedFor : (GlobalVariableError → Type 0) → Refusal GlobalVariableError → Type 0
IsRefusedFor IsFault (refusal.Memory e) = Unit {0}
IsRefusedFor IsFault (refusal.Fault e) = IsFault (error_of e) × (spans_of e ≡ [])
