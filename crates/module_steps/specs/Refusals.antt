-- The error of the check of a module's global variables.
use Rattle.std.specs.Prelude.{◌≡◌, [], length}
use Rattle.module_globals.specs.Faults.{IsGlobalFault}
use Rattle.ir_types.specs.found.Faults.{error_of, spans_of}
use Rattle.ir_types.specs.declared.refusal.Refusal.{Refusal}
use Rattle.ir_types.specs.declared.refusal.Refusal.TheVariants as refusal
use Rattle.ir_flags.specs.declared.settings.Capabilities.{Capabilities}
use Rattle.ir_flags.specs.declared.settings.ValidationFlags.{ValidationFlags}
use Rattle.ir_items.specs.judged.Plain.{PlainModule}
use Rattle.module_steps.specs.declared.globals.InvalidGlobalVariable.{InvalidGlobalVariable}
use Rattle.spec_interface.specs.judged.Globals.{GlobalOK}
use Rattle.spec_expressions.specs.judged.Firsts.{FailsFirst}

-- It is the first invalid variable, with this error.
pub record IsVariableFault (flags : ValidationFlags) (capabilities : Capabilities) (m : PlainModule) (e : InvalidGlobalVariable) : Type 0 where
  pub first : FailsFirst (length m.globals) (GlobalOK flags capabilities m) e.global
  pub fault : IsGlobalFault flags capabilities m e.global e.error

-- out of memory, or the first invalid variable
abbrev pub IsRefusal : ValidationFlags → Capabilities → PlainModule → Refusal InvalidGlobalVariable → Type 0
IsRefusal flags capabilities m (refusal.Memory e) = Unit {0}
IsRefusal flags capabilities m (refusal.Fault e) = IsVariableFault flags capabilities m (error_of e) × (spans_of e ≡ [])
