-- The results for the functions of a module, validated in order.
use Rattle.std.specs.Prelude.{◌≡◌, ◌<◌, ◌↔◌, ℕ, Bool, false, [], List, length, Option, Some, slice_get}
use Rattle.typing_errors.specs.declared.error.FunctionError.{FunctionError}
use Rattle.function_whole.specs.Faults.{IsFunctionFaultAt}
use Rattle.function_whole.specs.FunctionInterface.{Faults, Question, question}
use Rattle.function_errors.specs.declared.error.InvalidFunction.{InvalidFunction}
use Rattle.ir_types.specs.found.Faults.{error_of, spans_of}
use Rattle.ir_types.specs.declared.refusal.Refusal.{Refusal}
use Rattle.ir_types.specs.declared.refusal.Refusal.TheVariants as refusal
use Rattle.ir_flags.specs.Sets.{Has}
use Rattle.ir_flags.specs.declared.settings.ValidationFlags.{ValidationFlags}
use Rattle.ir_flags.specs.declared.stages.ShaderStages.{ShaderStages}
use Rattle.ir_flags.specs.declared.settings.Settings.{Settings}
use Rattle.ir_items.specs.judged.Plain.{PlainFunction, PlainModule}
use Rattle.ir_places.specs.Paths.{IsPlaced}
use Rattle.ir_places.specs.declared.trail.Trail.{Trail}
use Rattle.spec_expressions.specs.judged.Summaries.{Summary, CalleesKnown, AreSummaries}
use Rattle.spec_statements.specs.judged.ExpressionStages.{all_stages}
use Rattle.spec_statements.specs.judged.EarlierPayloads.{IsPayloadBefore}
use Rattle.spec_statements.specs.judged.Functions.{Reading, FunctionOK, AllowsStage}

-- The inputs for the function at an index: the summaries of its callees over their call chains, the stages of earlier
-- functions, and the payload type before it.
pub record Preceding (flags : ValidationFlags) (m : PlainModule) (index : ℕ) (f : PlainFunction) : Type 0 where
  pub summaries : List Summary
  pub known : CalleesKnown m f summaries
  pub stages : List ShaderStages
  pub held : Option ℕ
  pub before : IsPayloadBefore flags m index held

-- The function at an index meets the rules of functions, for these inputs.
pub record IsAcceptedAt (reading : Question → Reading) (s : Settings) (m : PlainModule) (index : ℕ) : Type 0 where
  pub function : PlainFunction
  pub at : slice_get m.functions index ≡ Some function
  pub given : Preceding s.flags m index function
  pub ok : FunctionOK (reading (question m function given.summaries given.stages)) s false given.held m function

-- It does not, with this error at the place of the trail.
pub record IsRefusedAt (reading : Question → Reading) (faults : Question → Faults) (s : Settings) (m : PlainModule) (index : ℕ) (t : Trail) (e : FunctionError) : Type 0 where
  pub function : PlainFunction
  pub at : slice_get m.functions index ≡ Some function
  pub given : Preceding s.flags m index function
  pub refused : FunctionOK (reading (question m function given.summaries given.stages)) s false given.held m function → ⊥
  pub fault : IsPlaced t (IsFunctionFaultAt (reading (question m function given.summaries given.stages)) (faults (question m function given.summaries given.stages)) s false given.held m function e)

-- These stages may run the function at an index, for these inputs; those of earlier functions are the first of a list.
pub record IsNotedAt (reading : Question → Reading) (s : Settings) (m : PlainModule) (noted : List ShaderStages) (index : ℕ) (own : ShaderStages) : Type 0 where
  pub function : PlainFunction
  pub at : slice_get m.functions index ≡ Some function
  pub given : Preceding s.flags m index function
  pub many : length given.stages ≡ index
  pub same : (earlier : ℕ) → earlier < index → slice_get given.stages earlier ≡ slice_get noted earlier
  pub exact : (stage : ℕ) → Has own.0 stage
      ↔ (Has all_stages.0 stage × AllowsStage (reading (question m function given.summaries given.stages)) s given.stages function stage)

-- each of the list is noted for the function at its index
abbrev pub AreNoted : (Question → Reading) → Settings → PlainModule → List ShaderStages → Type 0
AreNoted reading s m noted = (index : ℕ) (own : ShaderStages) → slice_get noted index ≡ Some own → IsNotedAt reading s m noted index own

-- The first functions are valid; these are their summaries and the stages that may run them, and this payload type is kept
-- afterwards.
pub record AreJudged (reading : Question → Reading) (s : Settings) (m : PlainModule) (count : ℕ) (summaries : List Summary) (noted : List ShaderStages) (held : Option ℕ) : Type 0 where
  pub accepted : (index : ℕ) → index < count → IsAcceptedAt reading s m index
  pub many : length summaries ≡ count
  pub stages : AreNoted reading s m noted
  pub counted : length noted ≡ count
  pub known : AreSummaries m summaries
  pub payloads : IsPayloadBefore s.flags m count held

-- the information on each function or entry point by itself, independent of its callees
abbrev pub AreOwn : {Plain Info : Type 0} → (Own : Plain → Info → Type 0) → List Plain → List Info → Type 0
AreOwn {Plain} {Info} Own items infos = (index : ℕ) (f : Plain) (i : Info) → slice_get items index ≡ Some f → slice_get infos index ≡ Some i → Own f i

-- the information on a function by itself, and that its results do not have two blend sources
abbrev pub FunctionKeeps : {Info : Type 0} → (own : PlainFunction → Info → Type 0) → (blending : Info → Bool) → PlainFunction → Info → Type 0
FunctionKeeps {Info} own blending f i = own f i × (blending i ≡ false)

-- The same, with the information on each function by itself.
pub record AreJudgedWith {Info : Type 0} (reading : Question → Reading) (s : Settings) (m : PlainModule) (Own : PlainFunction → Info → Type 0) (count : ℕ) (infos : List Info) (summaries : List Summary) (noted : List ShaderStages) (held : Option ℕ) : Type 0 where
  pub judged : AreJudged reading s m count summaries noted held
  pub as_many : length infos ≡ count
  pub own : AreOwn Own m.functions infos

-- The function is refused with this error, and each before it is valid.
pub record IsFirstRefused (reading : Question → Reading) (faults : Question → Faults) (s : Settings) (m : PlainModule) (e : InvalidFunction) : Type 0 where
  pub before : (index : ℕ) → index < e.function → IsAcceptedAt reading s m index
  pub here : IsRefusedAt reading faults s m e.function e.trail e.error

-- a refusal is that of the function at a handle, with its place
abbrev pub IsReportedAt : (handle : ℕ) → Trail → Refusal FunctionError → Refusal InvalidFunction → Type 0
IsReportedAt handle t (refusal.Memory e) (refusal.Memory d) = Unit {0}
IsReportedAt handle t (refusal.Memory e) (refusal.Fault g) = ⊥
IsReportedAt handle t (refusal.Fault f) (refusal.Memory d) = ⊥
IsReportedAt handle t (refusal.Fault f) (refusal.Fault g) = ((error_of g).function ≡ handle) × ((error_of g).error ≡ error_of f) × ((error_of g).trail ≡ t) × (spans_of g ≡ [])

-- out of memory, or the error of the first invalid function
abbrev pub IsRefusal : (Question → Reading) → (Question → Faults) → Settings → PlainModule → Refusal InvalidFunction → Type 0
IsRefusal reading faults s m (refusal.Memory e) = Unit {0}
IsRefusal reading faults s m (refusal.Fault e) = IsFirstRefused reading faults s m (error_of e) × (spans_of e ≡ [])
