-- The `ModuleInfo` of a valid module is what the report requires.
use Rattle.std.proofs.Common.{◌≡◌, ◌∙◌, ℕ, Bool, Some, option_map, slice_get, sym, ap}
use Rattle.std.proofs.lemmas.List.{length-map}
use Rattle.std.proofs.lemmas.Option.{slice_get-map}
use Rattle.ir_flags.specs.declared.settings.Settings.{Settings}
use Rattle.typing_infos.specs.Infos.{summary_of}
use Rattle.typing_infos.specs.declared.function_info.FunctionInfo.{FunctionInfo}
use Rattle.function_modules.specs.Validated.{IsValidated}
use Rattle.ir_items.specs.judged.Plain.{PlainEntry, PlainModule}
use Rattle.typing_handles.proofs.Ordered.{order_gives_conditions}
use Rattle.typing_infos.specs.declared.info.ModuleInfo.{ModuleInfo}
use Rattle.judgement_report.proofs.Noted.{noted_is_reported}
use Rattle.judgement_report.specs.Reported.{IsEntryInfo, IsReported}
use Rattle.spec_expressions.specs.judged.ModuleReferences as part
use Rattle.spec_expressions.specs.judged.References.{item}
use Rattle.spec_expressions.specs.declared.target.Target.TheVariants as target

module _ (s : Settings) (resolved : Bool) (m : PlainModule) (info : ModuleInfo) (h : IsValidated s resolved m info) where
  entry_info : (number : ℕ) (e : PlainEntry) (i : FunctionInfo) → slice_get m.entries number ≡ Some e → slice_get info.entry_points.items number ≡ Some i → IsEntryInfo m e i
  entry_info number e i at there =
      let is = h.entries.known number e (summary_of i) at (slice_get-map summary_of info.entry_points.items number ∙ ap (option_map summary_of) there) in
      noted_is_reported m e i (record { many = is.many; uses = is.uses; pairs = is.pairs })

  pub reported : IsReported m info
  reported = record {
    typed = λ number v at. h.ok.handles.there (part.variable number) (item (target.Type v.ty)) (part.variable_type at);
    laid = record { back = (order_gives_conditions m h.ok.handles).types; layouts = h.layouts; all = h.laid };
    many = sym (length-map info.entry_points.items summary_of) ∙ h.entries.many;
    each = entry_info;
  }
