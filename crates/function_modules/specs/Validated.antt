-- The results for a whole module.
use Rattle.std.specs.Prelude.{◌≡◌, [], Bool, List, length, map}
use Rattle.typing_infos.specs.Infos.{summary_of}
use Rattle.typing_infos.specs.declared.function_info.FunctionInfo.{FunctionInfo}
use Rattle.function_modules.specs.Chains.{AreKept, IsFunctionFault}
use Rattle.function_modules.specs.Judged.{AreOwn, FunctionKeeps}
use Rattle.typing_analysis.specs.Infos.{IsOwnInfo}
use Rattle.function_modules.specs.JudgedEntries.{AreEntryNotes, AreEntrySummaries, EntryKeeps, IsEntryRefusedAt, note_of}
use Rattle.function_errors.specs.declared.error.InvalidEntryPoint.{InvalidEntryPoint}
use Rattle.function_errors.specs.declared.error.ValidationError.{ValidationError}
use Rattle.function_errors.specs.declared.error.ValidationError.TheVariants as error
use Rattle.ir_types.specs.found.Faults.{error_of, spans_of}
use Rattle.ir_types.specs.declared.refusal.Refusal.{Refusal}
use Rattle.ir_types.specs.declared.refusal.Refusal.TheVariants as refusal
use Rattle.ir_flags.specs.declared.stages.ShaderStages.{ShaderStages}
use Rattle.ir_flags.specs.declared.settings.Settings.{Settings}
use Rattle.ir_items.specs.judged.Plain.{PlainModule}
use Rattle.typing_infos.specs.declared.info.ModuleInfo.{ModuleInfo}
use Rattle.module_context.specs.AcceptedTypes.{AreAccepted}
use Rattle.function_errors.specs.ModuleSteps.{IsModuleFault, IsVariableFault}
use Rattle.function_modules.specs.Readings.{reading_of, faults_of}
use Rattle.spec_expressions.specs.judged.Summaries.{Summary, AreSummaries}
use Rattle.spec_interface.specs.judged.Modules.{EntryAtOK}
use Rattle.spec_interface.specs.judged.Modules.{EntriesOK, AreStages}
use Rattle.spec_expressions.specs.judged.Context.{outside}
use Rattle.spec_statements.specs.judged.ModuleFunctions.{reading_over, FunctionsOK}
use Rattle.spec_interface.specs.judged.Globals.{GlobalsOK}
use Rattle.judgement.specs.judged.ModuleSteps.{ModuleOK}
use Rattle.typing_infos.specs.Types.{AreTypes}
use Rattle.typing_layout.specs.found.Held.{AreLayouts}
use Rattle.spec_expressions.specs.judged.Firsts.{FailsFirst}

-- All entry points are valid, and these are their summaries.
pub record AreEntriesKept (s : Settings) (m : PlainModule) (kept : List Summary) : Type 0 where
  pub accepted : EntriesOK s m
  pub many : length kept ≡ length m.entries
  pub known : AreEntrySummaries m kept

-- these stages may run a function
abbrev pub stages_of : FunctionInfo → ShaderStages
stages_of i = i.available_stages

-- The notes on functions and entry points: which stages may run each of them, with its callees, and whether the results of an
-- entry point have two blend sources.
pub record AreNoted (s : Settings) (m : PlainModule) (functions entries : List FunctionInfo) : Type 0 where
  pub run : AreStages s m (map stages_of functions)
  pub counted : length entries ≡ length m.entries
  pub entries_noted : AreEntryNotes (λ e. reading_over (map stages_of functions) m e.function) s m (map stages_of functions) (map (note_of stages_of (λ i. i.dual_source_blending)) entries)

-- The information on functions and entry points by themselves: on each expression, and the pairs of global variables that they
-- sample; only functions of entry points have dual source blending.
pub record AreOwnInfos (m : PlainModule) (info : ModuleInfo) : Type 0 where
  pub functions : AreOwn (FunctionKeeps (IsOwnInfo m) (λ (i : FunctionInfo). i.dual_source_blending)) m.functions info.functions.items
  pub entries : AreOwn (EntryKeeps (IsOwnInfo m)) m.entries info.entry_points.items

-- All steps accept the module, and this is the information on it.
pub record IsValidated (s : Settings) (resolved : Bool) (m : PlainModule) (info : ModuleInfo) : Type 0 where
  pub ok : ModuleOK s resolved m
  pub globals : GlobalsOK s.flags s.capabilities m
  pub functions : AreKept s m (map summary_of info.functions.items)
  pub entries : AreEntriesKept s m (map summary_of info.entry_points.items)
  pub noted : AreNoted s m info.functions.items info.entry_points.items
  pub types : AreAccepted s.capabilities resolved m.types info.types.items
  pub layouts : AreLayouts m.types info.layouter
  pub laid : length info.layouter ≡ length m.types
  pub expressions : AreTypes (outside m) m.global_expressions info.const_expression_types.items
  pub own : AreOwnInfos m info

-- It is the first invalid entry point, with this error.
pub record IsEntryFault (s : Settings) (m : PlainModule) (e : InvalidEntryPoint) : Type 0 where
  pub first : FailsFirst (length m.entries) (EntryAtOK s m) e.index
  pub summaries : List Summary
  pub many : length summaries ≡ length m.functions
  pub known : AreSummaries m summaries
  pub stages : List ShaderStages
  pub run : AreStages s m stages
  pub fault : IsEntryRefusedAt reading_of faults_of s m summaries stages e.index e.trail e.error

-- Each error is that of the first failing step, at the first item that fails it, and its condition holds.
abbrev pub IsValidationFault : Settings → (resolved : Bool) → PlainModule → ValidationError → Type 0
IsValidationFault s resolved m (error.Module e) = IsModuleFault s resolved m e
IsValidationFault s resolved m (error.GlobalVariable e) = ModuleOK s resolved m × IsVariableFault s.flags s.capabilities m e
IsValidationFault s resolved m (error.Function e) = ModuleOK s resolved m × GlobalsOK s.flags s.capabilities m × IsFunctionFault s m e
IsValidationFault s resolved m (error.EntryPoint e) = ModuleOK s resolved m × GlobalsOK s.flags s.capabilities m × FunctionsOK s m × IsEntryFault s m e

-- out of memory, or this error, without spans
abbrev pub IsRefusedWith : {E : Type 0} → (E → Type 0) → Refusal E → Type 0
IsRefusedWith IsFault (refusal.Memory e) = Unit {0}
IsRefusedWith IsFault (refusal.Fault e) = IsFault (error_of e) × (spans_of e ≡ [])

-- ---- after the global variables

-- The functions and the entry points are valid; this is the information on them, with the information before.
pub record IsKeptWith (s : Settings) (m : PlainModule) (before info : ModuleInfo) : Type 0 where
  pub functions : AreKept s m (map summary_of info.functions.items)
  pub entries : AreEntriesKept s m (map summary_of info.entry_points.items)
  pub noted : AreNoted s m info.functions.items info.entry_points.items
  pub types : info.types ≡ before.types
  pub layouts : info.layouter ≡ before.layouter
  pub expressions : info.const_expression_types ≡ before.const_expression_types
  pub own : AreOwnInfos m info

abbrev pub IsFaultAfter : Settings → PlainModule → ValidationError → Type 0
IsFaultAfter s m (error.Module e) = ⊥
IsFaultAfter s m (error.GlobalVariable e) = ⊥
IsFaultAfter s m (error.Function e) = IsFunctionFault s m e
IsFaultAfter s m (error.EntryPoint e) = FunctionsOK s m × IsEntryFault s m e

-- a refusal of a step, as one of the module
abbrev pub IsReportedBy : {E : Type 0} → (E → ValidationError) → Refusal E → Refusal ValidationError → Type 0
IsReportedBy of (refusal.Memory e) (refusal.Memory d) = Unit {0}
IsReportedBy of (refusal.Memory e) (refusal.Fault g) = ⊥
IsReportedBy of (refusal.Fault f) (refusal.Memory d) = ⊥
IsReportedBy of (refusal.Fault f) (refusal.Fault g) = (error_of g ≡ of (error_of f)) × (spans_of g ≡ [])
