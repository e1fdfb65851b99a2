-- The spans of an error of a module: those of the items that it names.
use Rattle.std.specs.Prelude.{◌≡◌, ℕ, List, [], Option, Some, None, Result, Ok, Err, slice_get}
use Rattle.function_errors.specs.Labels.{entry_label, function_label, labelled, module_label, subject_label, variable_label}
use Rattle.function_errors.specs.declared.labels.Label.{Label}
use Rattle.function_entry_checks.specs.declared.error.EntryPointError.{EntryPointError}
use Rattle.ir_arena.specs.found.Arenas.{value_at}
use Rattle.ir_arena.specs.declared.span.Span.{Span}
use Rattle.ir_types.specs.found.Faults.{error_of, spans_of}
use Rattle.ir_types.specs.declared.refusal.Refusal.{Refusal}
use Rattle.ir_types.specs.declared.refusal.Refusal.TheVariants as refusal
use Rattle.ir_items.specs.declared.entries.EntryPoint.{EntryPoint}
use Rattle.ir_items.specs.declared.functions.Function.{Function}
use Rattle.ir_items.specs.declared.module.Module.{Module}
use Rattle.function_errors.specs.declared.error.ValidationError.{ValidationError}
use Rattle.function_errors.specs.declared.error.ValidationError.TheVariants as error
use Rattle.typing_errors.specs.declared.error.FunctionError.{FunctionError}

-- that of the subject of a function's error, if the function exists
abbrev pub label_in_function : Option Function → FunctionError → Option Label
label_in_function (Some f) e = subject_label f e
label_in_function None e = None

abbrev pub label_in_entry : Module → Option EntryPoint → EntryPointError → Option Label
label_in_entry m (Some entry) e = entry_label m entry e
label_in_entry m None e = None

-- the innermost item that an error names
abbrev pub inner_label : Module → ValidationError → Option Label
inner_label m (error.Module e) = module_label m e
inner_label m (error.GlobalVariable e) = Some (variable_label m e.global)
inner_label m (error.Function e) = label_in_function (value_at m.functions e.function) e.error
inner_label m (error.EntryPoint e) = label_in_entry m (slice_get m.entry_points.items e.index) e.error

-- the function that contains it; entry points have no span
abbrev pub outer_label : Module → ValidationError → Option Label
outer_label m (error.Module e) = None
outer_label m (error.GlobalVariable e) = None
outer_label m (error.Function e) = Some (function_label m e.function)
outer_label m (error.EntryPoint e) = None

-- spans, followed by the known ones of these items, each with its item
abbrev pub spans_added : Module → List (Span × List ℕ) → ValidationError → List (Span × List ℕ)
spans_added m spans e = labelled (labelled spans (inner_label m e)) (outer_label m e)

-- the known spans of the items that an error names
abbrev pub spans_named : Module → ValidationError → List (Span × List ℕ)
spans_named m e = spans_added m [] e

-- out of memory, or this error, with the spans of the items that it names
abbrev pub IsRefusedAt : (ValidationError → Type 0) → Module → Refusal ValidationError → Type 0
IsRefusedAt IsFault m (refusal.Memory e) = Unit {0}
IsRefusedAt IsFault m (refusal.Fault e) = IsFault (error_of e) × (spans_of e ≡ spans_named m (error_of e))

-- a result, and the same with the spans of the items that its error names, unless out of memory
abbrev pub IsSpanned : {I : Type 0} → Module → Result I (Refusal ValidationError) → Result I (Refusal ValidationError) → Type 0
IsSpanned m (Ok info) r = r ≡ Ok info
IsSpanned m (Err (refusal.Memory e)) r = r ≡ Err (refusal.Memory e)
IsSpanned m (Err (refusal.Fault f)) (Ok info) = ⊥
IsSpanned m (Err (refusal.Fault f)) (Err (refusal.Memory e)) = Unit {0}
IsSpanned m (Err (refusal.Fault f)) (Err (refusal.Fault g)) = (error_of g ≡ error_of f) × (spans_of g ≡ spans_added m (spans_of f) (error_of f))
