use Rattle.std.proofs.Common.{◌∙◌, List, length, map, sym, ap, subst}
use Rattle.std.proofs.lemmas.List.{length-map}
use Rattle.typing_infos.specs.Infos.{summary_of}
use Rattle.typing_infos.specs.declared.function_info.FunctionInfo.{FunctionInfo}
use Rattle.function_modules.proofs.Assembled.{entries_kept, entries_noted, entry_refused, run_so, reported_by}
use Rattle.function_modules.proofs.EntryHeld.{held_behind_functions}
use Rattle.function_modules.proofs.FunctionKept.{kept, refused_by}
use Rattle.function_modules.specs.Chains.{AreKept, IsFunctionFault}
use Rattle.function_modules.specs.Judged.{AreOwn, FunctionKeeps}
use Rattle.typing_analysis.specs.Infos.{IsOwnInfo}
use Rattle.function_modules.specs.JudgedEntries.{AreEntriesJudged, EntryKeeps, IsEntryRefusal, note_of}
use Rattle.function_modules.specs.Validated.{AreEntriesKept, AreNoted, IsEntryFault, IsFaultAfter}
use Rattle.function_errors.specs.declared.error.ValidationError.TheVariants as error
use Rattle.ir_items.specs.found.View.{module_view}
use Rattle.typing_infos.specs.declared.info.ModuleInfo.{ModuleInfo}
use Rattle.function_modules.specs.Readings.{reading_of, faults_of}
use Rattle.spec_expressions.specs.judged.Summaries.{AreSummaries}
use Rattle.function_modules.proofs.whole.judge_after.Goals as goal

pub judge_all-requires-clause-made : goal.judge_all-requires-clause-made
judge_all-requires-clause-made c = (c.requires.made, c.requires.known)

pub judge_entries-requires-clause-made : goal.judge_entries-requires-clause-made
judge_entries-requires-clause-made c = (c.requires.made, c.requires.known)

pub judge_all-requires-clause-handles : goal.judge_all-requires-clause-handles
judge_all-requires-clause-handles c = c.requires.made.handles

pub judge_entries-requires-clause-handles : goal.judge_entries-requires-clause-handles
judge_entries-requires-clause-handles c = c.requires.made.handles

pub judge_entries-requires-clause-many : goal.judge_entries-requires-clause-many
judge_entries-requires-clause-many c = ap length c.deref.ensures.value ∙ (sym (length-map c.in-Ok-judge_all.functions.infos.items summary_of) ∙ c.in-Ok-judge_all.ensures.judged.many)

pub judge_entries-requires-clause-known : goal.judge_entries-requires-clause-known
judge_entries-requires-clause-known c = subst (λ (xs : List FunctionInfo). AreSummaries (module_view c.args.«module».now) (map summary_of xs)) (sym c.deref.ensures.value) c.in-Ok-judge_all.ensures.judged.known

pub judge_entries-requires-clause-before : goal.judge_entries-requires-clause-before
judge_entries-requires-clause-before c = held_behind_functions c.args.own.settings.flags (module_view c.args.«module».now) c.in-Ok-judge_all.functions.held c.in-Ok-judge_all.ensures.judged.payloads

pub returns-in-Err-judge_all : goal.returns-in-Err-judge_all
returns-in-Err-judge_all c =
    let s = c.args.own.settings in
    let m = module_view c.args.«module».now in
    reported_by error.Function (IsFunctionFault s m) (IsFaultAfter s m) (λ x h. h) c.in-Err-judge_all.refusal c.function_refusal.result c.function_refusal.ensures (refused_by s m c.in-Err-judge_all.refusal c.in-Err-judge_all.ensures)

pub returns-in-Ok-judge_entries : goal.returns-in-Ok-judge_entries
returns-in-Ok-judge_entries c =
    let s = c.args.own.settings in
    let m = module_view c.args.«module».now in
    let stages = λ (i : FunctionInfo). i.available_stages in
    let note = note_of stages (λ (i : FunctionInfo). i.dual_source_blending) in
    let functions = c.in-Ok-judge_all.functions.infos.items in
    let entries = c.in-Ok-judge_entries.entries in
    let judged = subst (λ (xs : List FunctionInfo). AreEntriesJudged reading_of s m (map summary_of xs) (map stages xs) (length m.entries) (map summary_of entries.infos.items) (map note entries.infos.items) entries.held) c.deref.ensures.value c.in-Ok-judge_entries.ensures.judged in
    let with = c.with_entry_points.ensures in
    let own = c.with_functions-info.ensures in
    let given = c.into_info.ensures in
    let info = c.with_entry_points.result in
    record {
      functions = subst (λ v. AreKept s m (map summary_of v.items)) (sym (ap (λ (i : ModuleInfo). i.functions) with ∙ ap (λ (i : ModuleInfo). i.functions) own)) (kept s m (map summary_of functions) (map stages functions) c.in-Ok-judge_all.functions.held c.in-Ok-judge_all.ensures.judged);
      entries = subst (λ v. AreEntriesKept s m (map summary_of v.items)) (sym (ap (λ (i : ModuleInfo). i.entry_points) with))
          (entries_kept s m c.requires.made.handles (map summary_of functions) (map stages functions) c.in-Ok-judge_all.functions.held c.in-Ok-judge_all.ensures.judged (map summary_of entries.infos.items) (map note entries.infos.items) entries.held judged);
      noted = subst (λ v. AreNoted s m v.items info.entry_points.items) (sym (ap (λ (i : ModuleInfo). i.functions) with ∙ ap (λ (i : ModuleInfo). i.functions) own)) (subst (λ v. AreNoted s m functions v.items) (sym (ap (λ (i : ModuleInfo). i.entry_points) with)) (record {
        run = run_so s m c.requires.made.handles (map summary_of functions) (map stages functions) c.in-Ok-judge_all.functions.held c.in-Ok-judge_all.ensures.judged;
        counted = sym (length-map entries.infos.items summary_of) ∙ judged.many;
        entries_noted = entries_noted s m c.requires.made.handles (map summary_of functions) (map stages functions) c.in-Ok-judge_all.functions.held c.in-Ok-judge_all.ensures.judged (map summary_of entries.infos.items) (map note entries.infos.items) entries.held judged;
      }));
      types = ap (λ (i : ModuleInfo). i.types) with ∙ (ap (λ (i : ModuleInfo). i.types) own ∙ ap (λ (i : ModuleInfo). i.types) given);
      layouts = ap (λ (i : ModuleInfo). i.layouter) with ∙ (ap (λ (i : ModuleInfo). i.layouter) own ∙ ap (λ (i : ModuleInfo). i.layouter) given);
      own = record {
        functions = subst (λ v. AreOwn (FunctionKeeps (IsOwnInfo m) (λ (i : FunctionInfo). i.dual_source_blending)) m.functions v.items) (sym (ap (λ (i : ModuleInfo). i.functions) with ∙ ap (λ (i : ModuleInfo). i.functions) own)) c.in-Ok-judge_all.ensures.own;
        entries = subst (λ v. AreOwn (EntryKeeps (IsOwnInfo m)) m.entries v.items) (sym (ap (λ (i : ModuleInfo). i.entry_points) with)) c.in-Ok-judge_entries.ensures.own;
      };
      expressions = ap (λ (i : ModuleInfo). i.const_expression_types) with ∙ (ap (λ (i : ModuleInfo). i.const_expression_types) own ∙ ap (λ (i : ModuleInfo). i.const_expression_types) given);
    }

pub returns-in-Err-judge_entries : goal.returns-in-Err-judge_entries
returns-in-Err-judge_entries c =
    let s = c.args.own.settings in
    let m = module_view c.args.«module».now in
    let stages = λ (i : FunctionInfo). i.available_stages in
    let functions = c.in-Ok-judge_all.functions.infos.items in
    let refused = subst (λ (xs : List FunctionInfo). IsEntryRefusal reading_of faults_of s m (map summary_of xs) (map stages xs) c.in-Err-judge_entries.refusal) c.deref.ensures.value c.in-Err-judge_entries.ensures in
    reported_by error.EntryPoint (IsEntryFault s m) (IsFaultAfter s m) (λ x h. ((kept s m (map summary_of functions) (map stages functions) c.in-Ok-judge_all.functions.held c.in-Ok-judge_all.ensures.judged).accepted, h)) c.in-Err-judge_entries.refusal c.entry_refusal.result c.entry_refusal.ensures
    (entry_refused s m c.requires.made.handles (map summary_of functions) (map stages functions) c.in-Ok-judge_all.functions.held c.in-Ok-judge_all.ensures.judged c.in-Err-judge_entries.refusal refused)
