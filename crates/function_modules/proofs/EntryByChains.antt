-- What is read of entry points with summaries of the functions is read by chains of calls.
use Rattle.std.proofs.Common.{◌≡◌, ℕ, true, Bool, List, length, Option, Some, sym, subst, ◌∙◌, slice_get}
use Rattle.std.proofs.lemmas.Option.{same_Some, slice_get_within}
use Rattle.function_entry_checks.specs.declared.error.EntryPointError.{EntryPointError}
use Rattle.function_whole.specs.FunctionInterface.{question}
use Rattle.function_whole.specs.Validated.{IsEntryNoted}
use Rattle.function_modules.proofs.ByChains.{ok_by_chains, ok_by_summaries}
use Rattle.function_modules.proofs.EntryHeld.{one_entry_held}
use Rattle.function_modules.proofs.EntrySteps.{entry_conditions, entry_known}
use Rattle.function_modules.specs.JudgedEntries.{IsEntryAcceptedAt, IsEntryRefusedAt, IsWrong, conflicting, unaccepted, IsFirstEntryRefused}
use Rattle.function_modules.specs.Validated.{IsEntryFault}
use Rattle.function_errors.specs.declared.error.InvalidEntryPoint.{InvalidEntryPoint}
use Rattle.ir_flags.specs.declared.stages.ShaderStages.{ShaderStages}
use Rattle.ir_flags.specs.declared.settings.Settings.{Settings}
use Rattle.ir_items.specs.judged.Plain.{PlainEntry, PlainFunction, PlainModule}
use Rattle.ir_places.specs.declared.trail.Trail.{Trail}
use Rattle.typing_handles.proofs.Ordered.{order_gives_conditions}
use Rattle.function_modules.specs.Readings.{reading_of, faults_of}
use Rattle.spec_expressions.specs.judged.CallChains.{HasUse}
use Rattle.spec_expressions.specs.judged.Summaries.{Summary, AreSummaries, CalleesKnown}
use Rattle.spec_interface.proofs.OneStages.{all_agree, allows_other}
use Rattle.spec_interface.specs.judged.Entries.{EntryOK}
use Rattle.spec_interface.specs.judged.EntryNames.{IsConflict}
use Rattle.spec_interface.specs.judged.Modules.{AreStages, EntryAtOK}
use Rattle.spec_statements.specs.judged.ModuleFunctions.{reading_over}
use Rattle.spec_expressions.specs.judged.ModuleHandles.{HandlesOK}
use Rattle.spec_statements.specs.judged.Functions.{FunctionOK, AllowsStage}
use Rattle.spec_interface.specs.judged.Contexts.{stage_set}

-- ---- functions

-- a function is as good with other stages of its callees
with_stages : (given stages : List ShaderStages) (s : Settings) (entry : Bool) (held : Option ℕ) (m : PlainModule) (f : PlainFunction)
    → FunctionOK (reading_over given m f) s entry held m f → FunctionOK (reading_over stages m f) s entry held m f
with_stages given stages s entry held m f ok = record {
  arity = ok.arity;
  analysed = ok.analysed;
  forms = ok.forms;
  typed = record { many = ok.typed.many; each = ok.typed.each };
  interface = ok.interface;
  expressions = ok.expressions;
  body = ok.body;
}

-- ---- one entry point

module _ (m : PlainModule) (e : PlainEntry) (summaries : List Summary) (stages : List ShaderStages) (known : CalleesKnown m e.function summaries) (s : Settings) (held : Option ℕ) (Uses : ℕ → ℕ → Type 0) where
  runs_by_chains : (stage : ℕ) → AllowsStage (reading_of (question m e.function summaries stages)) s stages e.function stage → AllowsStage (reading_over stages m e.function) s stages e.function stage
  runs_by_chains stage a = record { statements = a.statements; expressions = a.expressions }

  runs_by_summaries : (stage : ℕ) → AllowsStage (reading_over stages m e.function) s stages e.function stage → AllowsStage (reading_of (question m e.function summaries stages)) s stages e.function stage
  runs_by_summaries stage a = record { statements = a.statements; expressions = a.expressions }

  pub entry_by_chains : EntryOK (reading_of (question m e.function summaries stages)) stages Uses s held m e → EntryOK (reading_over stages m e.function) stages Uses s held m e
  entry_by_chains ok = record {
    stage = ok.stage;
    function = ok_by_chains m e.function summaries stages stages known s true held ok.function;
    payload = ok.payload;
    runs = runs_by_chains (stage_set e.stage).0 ok.runs;
    connections = ok.connections;
  }

  pub entry_by_summaries : EntryOK (reading_over stages m e.function) stages Uses s held m e → EntryOK (reading_of (question m e.function summaries stages)) stages Uses s held m e
  entry_by_summaries ok = record {
    stage = ok.stage;
    function = ok_by_summaries m e.function summaries stages stages known s true held ok.function;
    payload = ok.payload;
    runs = runs_by_summaries (stage_set e.stage).0 ok.runs;
    connections = ok.connections;
  }

-- what is noted of one
pub noted_by_chains : (s : Settings) (m : PlainModule) (e : PlainEntry) (summaries : List Summary) (stages : List ShaderStages) (own : ShaderStages) (blending : Bool)
    → IsEntryNoted (reading_of (question m e.function summaries stages)) stages s m e own blending → IsEntryNoted (reading_over stages m e.function) stages s m e own blending
noted_by_chains s m e summaries stages own blending n = record {
  run = λ stage. (
    (λ h. (let r = (n.run stage).0 h in (r.0, record { statements = r.1.statements; expressions = r.1.expressions }))),
    (λ r. (n.run stage).1 (r.0, record { statements = r.1.statements; expressions = r.1.expressions })),
  );
  blended = n.blended;
}

-- ---- all of them

module _ (s : Settings) (m : PlainModule) (handles : HandlesOK m) (summaries : List Summary) (many : length summaries ≡ length m.functions) (known : AreSummaries m summaries)
    (stages : List ShaderStages) (run : AreStages s m stages) where
  pub accepted_at : (index : ℕ) → IsEntryAcceptedAt reading_of s m summaries stages index → EntryAtOK s m index
  accepted_at index a = record {
    entry = a.entry;
    at = a.at;
    held = a.held;
    before = a.before;
    stages = stages;
    run = run;
    apart = a.apart;
    ok = entry_by_chains m a.entry summaries stages (entry_known m handles index a.entry a.at summaries many known) s a.held (HasUse m a.entry.function) a.ok;
  }

  -- whichever stages are reported of the functions
  other_stages : (index : ℕ) (e : PlainEntry) → slice_get m.entries index ≡ Some e → (others : List ShaderStages) → AreStages s m others → (held : Option ℕ)
      → EntryOK (reading_over others m e.function) others (HasUse m e.function) s held m e → EntryOK (reading_over stages m e.function) stages (HasUse m e.function) s held m e
  other_stages index e at others these held ok = record {
    stage = ok.stage;
    function = with_stages others stages s true held m e.function ok.function;
    payload = ok.payload;
    runs = allows_other (length m.functions) e.function others stages (entry_conditions m handles index e at).callees
        (all_agree s m (λ i f there. ((order_gives_conditions m handles).functions i f there).callees) others stages these run (length m.functions)) s m (stage_set e.stage).0 ok.runs;
    connections = ok.connections;
  }

  -- what is judged to be accepted, with what is known of another
  same_ok : (index : ℕ) (ok : EntryAtOK s m index) (e : PlainEntry) → slice_get m.entries index ≡ Some e → (held : Option ℕ) → ok.held ≡ held
      → EntryOK (reading_of (question m e.function summaries stages)) stages (HasUse m e.function) s held m e
  same_ok index ok e at held same_held =
      let same : ok.entry ≡ e = same_Some _ _ (sym ok.at ∙ at) in
      let moved = other_stages index ok.entry ok.at ok.stages ok.run ok.held ok.ok in
      subst (λ h. EntryOK (reading_of (question m e.function summaries stages)) stages (HasUse m e.function) s h m e) same_held
      (subst (λ (g : PlainEntry). EntryOK (reading_of (question m g.function summaries stages)) stages (HasUse m g.function) s ok.held m g) same
      (entry_by_summaries m ok.entry summaries stages (entry_known m handles index ok.entry ok.at summaries many known) s ok.held (HasUse m ok.entry.function) moved))

  wrong_refutes : (index : ℕ) (ok : EntryAtOK s m index) (e : PlainEntry) → slice_get m.entries index ≡ Some e → (held : Option ℕ) → ok.held ≡ held → (t : Trail) (x : EntryPointError)
      → IsWrong reading_of faults_of s m summaries stages index e held t x → ⊥
  wrong_refutes index ok e at held same_held t _ (conflicting c) = ok.apart (subst (λ (g : PlainEntry). IsConflict m index g) (same_Some _ _ (sym at ∙ ok.at)) c)
  wrong_refutes index ok e at held same_held t _ (unaccepted refused placed) = refused (same_ok index ok e at held same_held)

  pub refused_at : (index : ℕ) (t : Trail) (x : EntryPointError) → IsEntryRefusedAt reading_of faults_of s m summaries stages index t x → ¬ EntryAtOK s m index
  refused_at index t x r ok = wrong_refutes index ok r.entry r.at r.held (one_entry_held s.flags m index ok.held r.held ok.before r.before) t x r.wrong

  pub entry_fault : (x : InvalidEntryPoint) → IsFirstEntryRefused reading_of faults_of s m summaries stages x → IsEntryFault s m x
  entry_fault x r = record {
    first = record {
      within = slice_get_within m.entries x.index r.here.entry r.here.at;
      before = λ i lt. accepted_at i (r.before i lt);
      fails = refused_at x.index x.trail x.error r.here;
    };
    summaries = summaries;
    many = many;
    known = known;
    stages = stages;
    run = run;
    fault = r.here;
  }
