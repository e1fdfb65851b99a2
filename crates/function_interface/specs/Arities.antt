-- Calls with another number of arguments than their functions have.
use Rattle.std.specs.Prelude.{ℕ, Some}
use Rattle.typing_errors.specs.declared.error.FunctionError.{FunctionError}
use Rattle.typing_errors.specs.declared.error.FunctionError.TheVariants as error
use Rattle.typing_errors.specs.declared.calls.CallError.{CallError}
use Rattle.typing_errors.specs.declared.calls.CallError.TheVariants as call_error
use Rattle.ir_blocks.specs.judged.Places.{Place}
use Rattle.ir_items.specs.judged.Plain.{PlainFunction, PlainModule}
use Rattle.typing_handles.specs.Tests.{PassesWrongCount, fault_at}

abbrev pub IsArityErrorAt : PlainModule → PlainFunction → (function : ℕ) → CallError → Place → Type 0
IsArityErrorAt m f function (call_error.ArgumentCount required seen) p = PassesWrongCount m f (fault_at function (Some required) seen) p
IsArityErrorAt m f function _ p = ⊥

abbrev pub IsArityFaultAt : PlainModule → PlainFunction → FunctionError → Place → Type 0
IsArityFaultAt m f (error.InvalidCall function e) p = IsArityErrorAt m f function e p
IsArityFaultAt m f _ p = ⊥
