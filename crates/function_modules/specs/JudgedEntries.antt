-- The results for the entry points of a module, validated in order.
use Rattle.std.specs.Prelude.{◌≡◌, ◌<◌, ℕ, [], Bool, List, length, Option, Some, slice_get}
use Rattle.function_entry_checks.specs.declared.error.EntryPointError.{EntryPointError}
use Rattle.function_entry_checks.specs.declared.error.EntryPointError.TheVariants.{Conflict}
use Rattle.function_whole.specs.FunctionInterface.{Faults, Question, question}
use Rattle.function_modules.specs.Judged.{AreOwn}
use Rattle.function_whole.specs.EntryFaults.{IsEntryPointFaultAt}
use Rattle.function_whole.specs.Validated.{IsEntryNoted, IsEntrySummary}
use Rattle.function_errors.specs.declared.error.InvalidEntryPoint.{InvalidEntryPoint}
use Rattle.ir_types.specs.found.Faults.{error_of, spans_of}
use Rattle.ir_types.specs.declared.refusal.Refusal.{Refusal}
use Rattle.ir_types.specs.declared.refusal.Refusal.TheVariants as refusal
use Rattle.ir_flags.specs.declared.stages.ShaderStages.{ShaderStages}
use Rattle.ir_flags.specs.declared.settings.Settings.{Settings}
use Rattle.ir_items.specs.judged.Plain.{PlainEntry, PlainFunction, PlainModule}
use Rattle.ir_places.specs.Paths.{IsPlaced}
use Rattle.ir_places.specs.declared.trail.Trail.{Trail}
use Rattle.spec_expressions.specs.judged.CallChains.{HasUse}
use Rattle.spec_expressions.specs.judged.Summaries.{Summary}
use Rattle.spec_interface.specs.judged.Entries.{EntryOK}
use Rattle.spec_interface.specs.judged.EarlierPayloads.{IsPayloadBeforeEntry}
use Rattle.spec_interface.specs.judged.EntryNames.{IsConflict}
use Rattle.spec_statements.specs.judged.Functions.{Reading}

-- the reading of an entry point's function, given the summaries of the module's functions and the stages that may run them
abbrev pub reading_at : (Question → Reading) → PlainModule → List Summary → List ShaderStages → PlainEntry → Reading
reading_at reading m summaries stages e = reading (question m e.function summaries stages)

-- The entry point at an index meets the rules of entry points, by this reading, and none before it has its stage and its name.
pub record IsEntryAcceptedAt (reading : Question → Reading) (s : Settings) (m : PlainModule) (summaries : List Summary) (stages : List ShaderStages) (index : ℕ) : Type 0 where
  pub entry : PlainEntry
  pub at : slice_get m.entries index ≡ Some entry
  pub held : Option ℕ
  pub before : IsPayloadBeforeEntry s.flags m index held
  pub apart : ¬ IsConflict m index entry
  pub ok : EntryOK (reading_at reading m summaries stages entry) stages (HasUse m entry.function) s held m entry

-- An earlier one has its stage and its name, or it does not meet the rules: with this error, at the place of the trail in its
-- function, if it is there.
pub data IsWrong (reading : Question → Reading) (faults : Question → Faults) (s : Settings) (m : PlainModule) (summaries : List Summary) (stages : List ShaderStages) (index : ℕ) (e : PlainEntry) (held : Option ℕ) (t : Trail) : EntryPointError → Type 0 where
  conflicting : IsConflict m index e → IsWrong reading faults s m summaries stages index e held t Conflict
  unaccepted : {x : EntryPointError} → ¬ EntryOK (reading_at reading m summaries stages e) stages (HasUse m e.function) s held m e
      → IsPlaced t (λ p. IsEntryPointFaultAt (reading_at reading m summaries stages e) (faults (question m e.function summaries stages)) stages (HasUse m e.function) s held m e p x)
      → IsWrong reading faults s m summaries stages index e held t x

pub record IsEntryRefusedAt (reading : Question → Reading) (faults : Question → Faults) (s : Settings) (m : PlainModule) (summaries : List Summary) (stages : List ShaderStages) (index : ℕ) (t : Trail) (x : EntryPointError) : Type 0 where
  pub entry : PlainEntry
  pub at : slice_get m.entries index ≡ Some entry
  pub held : Option ℕ
  pub before : IsPayloadBeforeEntry s.flags m index held
  pub wrong : IsWrong reading faults s m summaries stages index entry held t x

-- these are the summaries of the first entry points
abbrev pub AreEntrySummaries : PlainModule → List Summary → Type 0
AreEntrySummaries m kept = (index : ℕ) (e : PlainEntry) (t : Summary) → slice_get m.entries index ≡ Some e → slice_get kept index ≡ Some t → IsEntrySummary m e t

-- the notes on a function: which stages may run it, and whether its results have two blend sources
abbrev pub Note : Type 0
Note = ShaderStages × Bool

abbrev pub note_of : {Info : Type 0} → (Info → ShaderStages) → (Info → Bool) → Info → Note
note_of noted blending i = (noted i, blending i)

-- these are the notes on the functions of the first entry points
abbrev pub AreEntryNotes : (PlainEntry → Reading) → Settings → PlainModule → List ShaderStages → List Note → Type 0
AreEntryNotes reading s m stages notes = (index : ℕ) (e : PlainEntry) (n : Note) → slice_get m.entries index ≡ Some e → slice_get notes index ≡ Some n → IsEntryNoted (reading e) stages s m e n.0 n.1

-- The first entry points are valid; these are their summaries and notes, and this payload type is kept afterwards.
pub record AreEntriesJudged (reading : Question → Reading) (s : Settings) (m : PlainModule) (summaries : List Summary) (stages : List ShaderStages) (count : ℕ) (kept : List Summary) (notes : List Note) (held : Option ℕ) : Type 0 where
  pub accepted : (index : ℕ) → index < count → IsEntryAcceptedAt reading s m summaries stages index
  pub many : length kept ≡ count
  pub known : AreEntrySummaries m kept
  pub counted : length notes ≡ count
  pub noted : AreEntryNotes (reading_at reading m summaries stages) s m stages notes
  pub payloads : IsPayloadBeforeEntry s.flags m count held

-- the information on the function of an entry point by itself
abbrev pub EntryKeeps : {Info : Type 0} → (own : PlainFunction → Info → Type 0) → PlainEntry → Info → Type 0
EntryKeeps {Info} own e i = own e.function i

-- The same, with the information on the function of each by itself.
pub record AreEntriesJudgedWith {Info : Type 0} (reading : Question → Reading) (s : Settings) (m : PlainModule) (Own : PlainEntry → Info → Type 0) (summaries : List Summary) (stages : List ShaderStages) (count : ℕ) (infos : List Info) (kept : List Summary) (notes : List Note) (held : Option ℕ) : Type 0 where
  pub judged : AreEntriesJudged reading s m summaries stages count kept notes held
  pub as_many : length infos ≡ count
  pub own : AreOwn Own m.entries infos

-- The entry point is refused with this error, and each before it is valid.
pub record IsFirstEntryRefused (reading : Question → Reading) (faults : Question → Faults) (s : Settings) (m : PlainModule) (summaries : List Summary) (stages : List ShaderStages) (e : InvalidEntryPoint) : Type 0 where
  pub before : (index : ℕ) → index < e.index → IsEntryAcceptedAt reading s m summaries stages index
  pub here : IsEntryRefusedAt reading faults s m summaries stages e.index e.trail e.error

-- a refusal is that of the entry point at an index, with its place
abbrev pub IsEntryReportedAt : (index : ℕ) → Trail → Refusal EntryPointError → Refusal InvalidEntryPoint → Type 0
IsEntryReportedAt index t (refusal.Memory e) (refusal.Memory d) = Unit {0}
IsEntryReportedAt index t (refusal.Memory e) (refusal.Fault g) = ⊥
IsEntryReportedAt index t (refusal.Fault f) (refusal.Memory d) = ⊥
IsEntryReportedAt index t (refusal.Fault f) (refusal.Fault g) = ((error_of g).index ≡ index) × ((error_of g).error ≡ error_of f) × ((error_of g).trail ≡ t) × (spans_of g ≡ [])

-- out of memory, or the entry point at an index has the name of an earlier one
abbrev pub IsConflictReported : (index : ℕ) → (conflict : Type 0) → Refusal InvalidEntryPoint → Type 0
IsConflictReported index conflict (refusal.Memory e) = Unit {0}
IsConflictReported index conflict (refusal.Fault g) = conflict × ((error_of g).index ≡ index) × ((error_of g).error ≡ Conflict) × (spans_of g ≡ [])

-- out of memory, or the error of the first invalid entry point
abbrev pub IsEntryRefusal : (Question → Reading) → (Question → Faults) → Settings → PlainModule → List Summary → List ShaderStages → Refusal InvalidEntryPoint → Type 0
IsEntryRefusal reading faults s m summaries stages (refusal.Memory e) = Unit {0}
IsEntryRefusal reading faults s m summaries stages (refusal.Fault e) = IsFirstEntryRefused reading faults s m summaries stages (error_of e) × (spans_of e ≡ [])
