-- The labels of an error: the spans of the items that it names, each with its item.
use Rattle.std.specs.Prelude.{ℕ, List, Option, Some, None, codes}
use Rattle.ir_arena.specs.found.Arenas.{span_at}
use Rattle.ir_arena.specs.declared.span.Span.{Span}
use Rattle.ir_types.specs.found.Faults.{with_context}
use Rattle.ir_items.specs.declared.entries.EntryPoint.{EntryPoint}
use Rattle.ir_items.specs.declared.functions.Function.{Function}
use Rattle.ir_items.specs.declared.module.Module.{Module}
use Rattle.function_entry_checks.specs.declared.error.EntryPointError.{EntryPointError}
use Rattle.function_entry_checks.specs.declared.error.EntryPointError.TheVariants as entry
use Rattle.module_steps.specs.declared.error.ModuleError.{ModuleError}
use Rattle.module_steps.specs.declared.error.ModuleError.TheVariants as error
use Rattle.typing_errors.specs.declared.error.FunctionError.{FunctionError}
use Rattle.function_errors.specs.Subjects.{subject_of}
use Rattle.function_errors.specs.declared.labels.Item.{Item}
use Rattle.function_errors.specs.declared.labels.Item.TheVariants as item
use Rattle.function_errors.specs.declared.labels.Label.{Label}
use Rattle.function_errors.specs.declared.subjects.Subject.{Subject}
use Rattle.function_errors.specs.declared.subjects.Subject.TheVariants as subject

-- the item, in words
abbrev pub item_text : Item → List ℕ
item_text item.«Type» = codes "this type"
item_text item.Constant = codes "this constant"
item_text item.Override = codes "this override"
item_text item.GlobalVariable = codes "this global variable"
item_text item.GlobalExpression = codes "this global expression"
item_text item.Function = codes "this function"
item_text item.Expression = codes "this expression"
item_text item.LocalVariable = codes "this local variable"

abbrev pub label : Span → Item → Label
label span what = record { span = span; item = what }

-- the spans with that of a label, if there is one and its span is known
abbrev pub labelled : List (Span × List ℕ) → Option Label → List (Span × List ℕ)
labelled spans (Some l) = with_context spans l.span (item_text l.item)
labelled spans None = spans

-- ---- functions

abbrev pub label_in : Function → Subject → Option Label
label_in f (subject.Expression handle) = Some (label (span_at f.expressions handle) item.Expression)
label_in f (subject.LocalVariable handle) = Some (label (span_at f.local_variables handle) item.LocalVariable)
label_in f subject.Nothing = None

-- that of the subject of a function's error
abbrev pub subject_label : Function → FunctionError → Option Label
subject_label f e = label_in f (subject_of e)

abbrev pub function_label : Module → ℕ → Label
function_label m handle = label (span_at m.functions handle) item.Function

-- ---- items of the module

abbrev pub variable_label : Module → ℕ → Label
variable_label m handle = label (span_at m.global_variables handle) item.GlobalVariable

-- that of the item that fails a step up to overrides; an error of handles has no such item
abbrev pub module_label : Module → ModuleError → Option Label
module_label m (error.InvalidHandle e) = None
module_label m (error.Layouter e) = Some (label (span_at m.types e.ty) item.«Type»)
module_label m (error.Typing e) = Some (label (span_at m.types e.ty) item.«Type»)
module_label m (error.ConstExpression e) = Some (label (span_at m.global_expressions e.expression) item.GlobalExpression)
module_label m (error.Constant e) = Some (label (span_at m.constants e.constant) item.Constant)
module_label m (error.Override e) = Some (label (span_at m.overrides e.id) item.Override)

-- ---- entry points

-- that of the subject of an entry point's error: an expression or a variable of its function, or a global variable
abbrev pub entry_label : Module → EntryPoint → EntryPointError → Option Label
entry_label m e entry.Conflict = None
entry_label m e entry.MissingVertexOutputPosition = None
entry_label m e entry.UnexpectedEarlyDepthTest = None
entry_label m e entry.UnexpectedWorkgroupSize = None
entry_label m e entry.OutOfRangeWorkgroupSize = None
entry_label m e entry.ForbiddenStageOperations = None
entry_label m e (entry.InvalidGlobalUsage handle kind) = Some (variable_label m handle)
entry_label m e entry.MoreThanOneImmediateUsed = None
entry_label m e (entry.BindingCollision handle) = Some (variable_label m handle)
entry_label m e (entry.Argument a b) = None
entry_label m e (entry.Result a) = None
entry_label m e (entry.Function error) = subject_label e.function error
entry_label m e (entry.UnsupportedCapability a) = None
entry_label m e entry.ExpectedMeshShaderAttributes = None
entry_label m e entry.UnexpectedMeshShaderAttributes = None
entry_label m e entry.UnexpectedTaskPayload = None
entry_label m e entry.TaskPayloadWrongAddressSpace = None
entry_label m e entry.WrongTaskPayloadUsed = None
entry_label m e entry.WrongTaskShaderEntryResult = None
entry_label m e entry.ExpectedTaskPayload = None
entry_label m e entry.BadMeshOutputVariableType = None
entry_label m e entry.BadMeshOutputVariableField = None
entry_label m e entry.UnexpectedMeshShaderEntryResult = None
entry_label m e entry.InvalidMeshOutputType = None
entry_label m e entry.InvalidMeshPrimitiveOutputType = None
entry_label m e entry.WrongMeshOutputAddressSpace = None
entry_label m e (entry.TaskPayloadTooSmall a) = None
entry_label m e (entry.RayPayloadInInvalidStage a) = None
entry_label m e (entry.IncomingRayPayloadInInvalidStage a) = None
