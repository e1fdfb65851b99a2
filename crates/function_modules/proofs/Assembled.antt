-- What is answered of a whole module, put together of its steps.
use Rattle.std.proofs.Common.{◌≡◌, ◌∙◌, ℕ, Bool, List, length, Option, Result, Ok, Err, IfErr, sym, ap, subst}
use Rattle.function_modules.proofs.EntryByChains.{accepted_at, entry_fault, noted_by_chains}
use Rattle.function_modules.proofs.Staged.{are_stages}
use Rattle.function_modules.specs.Judged.{AreJudged}
use Rattle.function_modules.specs.JudgedEntries.{AreEntriesJudged, AreEntryNotes, IsEntryRefusal, Note}
use Rattle.function_modules.specs.Validated.{AreEntriesKept, IsEntryFault, IsFaultAfter, IsKeptWith, IsRefusedWith, IsReportedBy, IsValidated, IsValidationFault}
use Rattle.function_errors.specs.declared.error.InvalidEntryPoint.{InvalidEntryPoint}
use Rattle.function_errors.specs.declared.error.ValidationError.{ValidationError}
use Rattle.function_errors.specs.declared.error.ValidationError.TheVariants as error
use Rattle.ir_types.specs.found.Faults.{error_of}
use Rattle.ir_types.specs.declared.refusal.Refusal.{Refusal}
use Rattle.ir_types.specs.declared.refusal.Refusal.TheVariants as refusal
use Rattle.ir_flags.specs.declared.settings.Capabilities.{Capabilities}
use Rattle.ir_flags.specs.declared.settings.ValidationFlags.{ValidationFlags}
use Rattle.ir_flags.specs.declared.stages.ShaderStages.{ShaderStages}
use Rattle.ir_flags.specs.declared.settings.Settings.{Settings}
use Rattle.ir_items.specs.judged.Plain.{PlainModule}
use Rattle.typing_handles.proofs.Ordered.{order_gives_conditions}
use Rattle.typing_infos.specs.declared.info.ModuleInfo.{ModuleInfo}
use Rattle.module_context.specs.AcceptedTypes.{AreAccepted}
use Rattle.function_errors.specs.ModuleSteps.items as items
use Rattle.function_errors.specs.ModuleSteps.{IsModuleFault, IsVariableFault, IsInfoOf, ModuleError, InvalidGlobalVariable}
use Rattle.function_errors.specs.ModuleSteps.variables as variables
use Rattle.function_modules.specs.Made.{IsMadeOf}
use Rattle.function_modules.specs.Readings.{reading_of, faults_of}
use Rattle.spec_expressions.specs.judged.Summaries.{Summary}
use Rattle.spec_interface.specs.judged.Modules.{AreStages}
use Rattle.spec_expressions.specs.judged.Context.{outside}
use Rattle.spec_interface.specs.judged.Globals.{GlobalsOK}
use Rattle.spec_expressions.specs.judged.ModuleHandles.{HandlesOK}
use Rattle.judgement.specs.judged.ModuleSteps.{ModuleOK}
use Rattle.spec_statements.specs.judged.ModuleFunctions.{reading_over}
use Rattle.typing_infos.specs.Types.{AreTypes}
use Rattle.typing_layout.specs.found.Held.{AreLayouts}

-- ---- refusals

pub reported_by : {E : Type 0} (of : E → ValidationError) (P : E → Type 0) (Q : ValidationError → Type 0) → ((x : E) → P x → Q (of x)) → (r : Refusal E) (t : Refusal ValidationError) → IsReportedBy of r t → IsRefusedWith P r
    → IsRefusedWith Q t
reported_by of P Q widen (refusal.Memory a) (refusal.Memory b) told h = tt
reported_by of P Q widen (refusal.Memory a) (refusal.Fault g) told h = absurd told
reported_by of P Q widen (refusal.Fault f) (refusal.Memory b) told h = absurd told
reported_by of P Q widen (refusal.Fault f) (refusal.Fault g) told h = (subst Q (sym told.0) (widen (error_of f) h.0), told.1)

pub widened : (P Q : ValidationError → Type 0) → ((x : ValidationError) → P x → Q x) → (r : Refusal ValidationError) → IsRefusedWith P r → IsRefusedWith Q r
widened P Q widen (refusal.Memory a) h = tt
widened P Q widen (refusal.Fault f) h = (widen (error_of f) h.0, h.1)

-- ---- functions and entry points

module _ (s : Settings) (m : PlainModule) (handles : HandlesOK m) (summaries : List Summary) (stages : List ShaderStages) (held : Option ℕ) (judged : AreJudged reading_of s m (length m.functions) summaries stages held) where
  pub run_so : AreStages s m stages
  run_so = are_stages s m stages (λ i f there. ((order_gives_conditions m handles).functions i f there).callees) judged.counted judged.stages

  pub entries_kept : (kept : List Summary) (notes : List Note) (after : Option ℕ) → AreEntriesJudged reading_of s m summaries stages (length m.entries) kept notes after → AreEntriesKept s m kept
  entries_kept kept notes after e = record {
    accepted = λ i lt. accepted_at s m handles summaries judged.many judged.known stages run_so i (e.accepted i lt);
    many = e.many;
    known = e.known;
  }

  pub entries_noted : (kept : List Summary) (notes : List Note) (after : Option ℕ) → AreEntriesJudged reading_of s m summaries stages (length m.entries) kept notes after
      → AreEntryNotes (λ e. reading_over stages m e.function) s m stages notes
  entries_noted kept notes after j index e n at there = noted_by_chains s m e summaries stages n.0 n.1 (j.noted index e n at there)

  pub entry_refused : (r : Refusal InvalidEntryPoint) → IsEntryRefusal reading_of faults_of s m summaries stages r → IsRefusedWith (IsEntryFault s m) r
  entry_refused (refusal.Memory a) h = tt
  entry_refused (refusal.Fault f) h = (entry_fault s m handles summaries judged.many judged.known stages run_so (error_of f) h.0, h.1)

-- ---- all steps

module _ (s : Settings) (resolved : Bool) (m : PlainModule) where
  pub made_of : (info : ModuleInfo) → ModuleOK s resolved m → IsInfoOf s resolved m info → IsMadeOf m info
  made_of info ok told = record {
    handles = ok.handles;
    told = record { told = record { each = λ handle i at. (told.types.each handle i at).info }; many = told.types.many };
    typed = told.expressions;
  }

  module _ (ok : ModuleOK s resolved m) (globals : GlobalsOK s.flags s.capabilities m) where
    pub fault_after : (x : ValidationError) → IsFaultAfter s m x → IsValidationFault s resolved m x
    fault_after (error.Module e) h = absurd h
    fault_after (error.GlobalVariable e) h = absurd h
    fault_after (error.Function e) h = (ok, globals, h)
    fault_after (error.EntryPoint e) h = (ok, globals, h.0, h.1)

    pub validated : (before info : ModuleInfo) → IsInfoOf s resolved m before → IsKeptWith s m before info → IsValidated s resolved m info
    validated before info told kept = record {
      ok = ok;
      globals = globals;
      functions = kept.functions;
      entries = kept.entries;
      noted = kept.noted;
      types = subst (λ v. AreAccepted s.capabilities resolved m.types v.items) (sym kept.types) told.types;
      layouts = subst (AreLayouts m.types) (sym kept.layouts) told.layouts;
      laid = ap length kept.layouts ∙ told.laid;
      expressions = subst (λ v. AreTypes (outside m) m.global_expressions v.items) (sym kept.expressions) told.expressions;
      own = kept.own;
    }

-- ---- the steps up to overrides

pub if_err_as : {A E : Type 0} (P Q : E → Type 0) → ((e : E) → P e → Q e) → (r : Result A E) → IfErr r P → IfErr r Q
if_err_as P Q widen (Ok a) h = tt
if_err_as P Q widen (Err e) h = widen e h

pub items_refused : (s : Settings) (resolved : Bool) (m : PlainModule) (r : Refusal ModuleError) → items.IsRefusal s resolved m r → IsRefusedWith (IsModuleFault s resolved m) r
items_refused s resolved m (refusal.Memory a) h = tt
items_refused s resolved m (refusal.Fault f) h = h

pub variables_refused : (flags : ValidationFlags) (capabilities : Capabilities) (m : PlainModule) (r : Refusal InvalidGlobalVariable) → variables.IsRefusal flags capabilities m r
    → IsRefusedWith (IsVariableFault flags capabilities m) r
variables_refused flags capabilities m (refusal.Memory a) h = tt
variables_refused flags capabilities m (refusal.Fault f) h = h
