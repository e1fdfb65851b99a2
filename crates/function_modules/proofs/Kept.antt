-- What the analysis of a function keeps is what is required of a layer.
use Rattle.std.proofs.Common.{◌≡◌, ℕ, List, Option, Some, None, Result, Ok, Err, IfOk, IfErr, map, option_map, length, slice_get, refl, sym, ap, subst, ◌∙◌}
use Rattle.std.proofs.lemmas.List.{length-map}
use Rattle.std.proofs.lemmas.Option.{slice_get-map}
use Rattle.spec_expressions.specs.declared.expression_info.ExpressionInfo.{ExpressionInfo}
use Rattle.typing_infos.specs.Infos.{summary_of}
use Rattle.typing_infos.specs.Keys.{AreKeys}
use Rattle.typing_infos.specs.declared.function_info.FunctionInfo.{FunctionInfo}
use Rattle.typing_errors.specs.declared.error.FunctionError.{FunctionError}
use Rattle.function_whole.specs.FunctionInterface.{IsKept, IsRefusedFor, question}
use Rattle.ir_types.specs.declared.refusal.Refusal.{Refusal}
use Rattle.ir_types.specs.declared.refusal.Refusal.TheVariants as refusal
use Rattle.ir_flags.specs.declared.settings.ValidationFlags.{ValidationFlags}
use Rattle.ir_flags.specs.declared.stages.ShaderStages.{ShaderStages}
use Rattle.ir_items.specs.judged.Plain.{PlainFunction, PlainModule}
use Rattle.ir_types.specs.judged.Plain.{plain, struct}
use Rattle.module_handles.proofs.OrderedTypes.{order_gives_types}
use Rattle.function_modules.specs.Made.{types_of}
use Rattle.function_modules.specs.Readings.{reading_of, faults_of}
use Rattle.spec_expressions.specs.judged.Summaries.{Summary}
use Rattle.spec_expressions.specs.judged.Typing.{HasType}
use Rattle.spec_expressions.specs.judged.FunctionHandles.{HandlesInRange}
use Rattle.spec_expressions.specs.judged.ModuleHandles.{HandlesOK}
use Rattle.typing_analysis.specs.Infos.{AreExpressionInfos, IsOwnInfo}
use Rattle.typing_forms.specs.judged.Forms.{NoStructValue, form_of}
use Rattle.typing_forms.specs.judged.Resolutions.{PlainResolution, by_handle, by_value, resolution_view}
use Rattle.typing_forms.specs.declared.resolution.TypeResolution.{TypeResolution}
use Rattle.typing_forms.specs.declared.form.Form.{Form}
use Rattle.typing_analysis.specs.Processed.{IsAnalysed, IsProcessed}
use Rattle.typing_errors.specs.Answers.{form_given}

typed_at : (m : PlainModule) (f : PlainFunction) (e : ℕ) (t : Form) (o : Option ExpressionInfo)
    → ((i : ExpressionInfo) → o ≡ Some i → HasType m f e (form_given m.types i.ty)) → option_map (form_given m.types) (option_map (λ (i : ExpressionInfo). i.ty) o) ≡ Some t → HasType m f e t
typed_at m f e t None typed is = absurd (let x = is in cc)
typed_at m f e t (Some i) typed is = subst (HasType m f e) (let x = is in cc) (typed i refl)

all_kept : (m : PlainModule) (f : PlainFunction) (infos : List ExpressionInfo) → AreExpressionInfos m f infos → (e : ℕ) (t : Form)
    → slice_get (map (form_given m.types) (map (λ (i : ExpressionInfo). i.ty) infos)) e ≡ Some t → HasType m f e t
all_kept m f infos are e t at =
    typed_at m f e t (slice_get infos e) (λ i is. (are.each e i is).ty)
    (sym (slice_get-map (form_given m.types) (map (λ (i : ExpressionInfo). i.ty) infos) e ∙ ap (option_map (form_given m.types)) (slice_get-map (λ (i : ExpressionInfo). i.ty) infos e)) ∙ at)

-- a struct that is given by what it is made of is no type of an expression
no_struct : (m : PlainModule) → HandlesOK m → (f : PlainFunction) → HandlesInRange m f → (e : ℕ) (r : PlainResolution) → HasType m f e (form_of m.types r) → NoStructValue r
no_struct m ok f within e (by_handle handle) typed = tt
no_struct m ok f within e (by_value (struct members span)) typed = λ _. order_gives_types m ok f within e (form_of m.types (by_value (struct members span))) typed
no_struct m ok f within e (by_value (plain i)) typed = λ is. is

all_named : (m : PlainModule) → HandlesOK m → (f : PlainFunction) → HandlesInRange m f → (infos : List ExpressionInfo) → AreExpressionInfos m f infos → (e : ℕ) (r : TypeResolution)
    → slice_get (map (λ (i : ExpressionInfo). i.ty) infos) e ≡ Some r → NoStructValue (resolution_view r)
all_named m ok f within infos are e r at =
    no_struct m ok f within e (resolution_view r)
    (all_kept m f infos are e (form_given m.types r) (slice_get-map (form_given m.types) (map (λ (i : ExpressionInfo). i.ty) infos) e ∙ ap (option_map (form_given m.types)) at))

kept_of : (flags : ValidationFlags) (m : PlainModule) (f : PlainFunction) (summaries : List Summary) (stages : List ShaderStages) (info : FunctionInfo)
    → HandlesOK m → HandlesInRange m f → IsAnalysed flags m f summaries info
    → IsKept (reading_of (question m f summaries stages)) flags (question m f summaries stages) (types_of info) (summary_of info) info.available_stages info.dual_source_blending
kept_of flags m f summaries stages info ok within a = record {
  analysed = a.clear;
  typed = record {
    many = length-map (types_of info) (form_given m.types) ∙ (length-map info.expressions.items (λ (i : ExpressionInfo). i.ty) ∙ a.info.expressions.len);
    each = all_kept m f info.expressions.items a.info.expressions;
  };
  named = all_named m ok f within info.expressions.items a.info.expressions;
  globals = a.info.globals;
  joined = a.info.joined;
  all_run = ap (λ bits. record { 0 = bits }) a.info.available_stages;
  unblended = a.info.dual_source_blending;
}

pub kept_by : (flags : ValidationFlags) (m : PlainModule) (f : PlainFunction) (summaries : List Summary) (stages : List ShaderStages) (r : Result FunctionInfo (Refusal FunctionError))
    → HandlesOK m → HandlesInRange m f → IsProcessed flags m f summaries r
    → IfOk r (λ info. IsKept (reading_of (question m f summaries stages)) flags (question m f summaries stages) (types_of info) (summary_of info) info.available_stages info.dual_source_blending)
kept_by flags m f summaries stages (Ok info) ok within a = kept_of flags m f summaries stages info ok within a
kept_by flags m f summaries stages (Err e) ok within a = tt

pub fault_by : (flags : ValidationFlags) (m : PlainModule) (f : PlainFunction) (summaries : List Summary) (stages : List ShaderStages) (r : Result FunctionInfo (Refusal FunctionError))
    → IsProcessed flags m f summaries r → IfErr r (IsRefusedFor ((faults_of (question m f summaries stages)).IsAnalysisFault flags))
fault_by flags m f summaries stages (Ok info) a = tt
fault_by flags m f summaries stages (Err (refusal.Memory e)) a = tt
fault_by flags m f summaries stages (Err (refusal.Fault e)) a = a

-- ---- what is kept of a function by itself

pub own_by : (flags : ValidationFlags) (m : PlainModule) (f : PlainFunction) (summaries : List Summary) (r : Result FunctionInfo (Refusal FunctionError)) → IsProcessed flags m f summaries r → IfOk r (IsOwnInfo m f)
own_by flags m f summaries (Ok info) a = record { expressions = a.info.expressions; sampling_set = a.info.sampling_set }
own_by flags m f summaries (Err e) a = tt

-- it stays so where something is noted
pub own_noted : (m : PlainModule) (f : PlainFunction) (old new : FunctionInfo) → new.expressions ≡ old.expressions → new.sampling_set ≡ old.sampling_set → new.sampling ≡ old.sampling
    → IsOwnInfo m f old → IsOwnInfo m f new
own_noted m f old new expressions keys pairs h = record {
  expressions = subst (λ xs. AreExpressionInfos m f xs.items) (sym expressions) h.expressions;
  sampling_set = subst (λ s. AreKeys s.items new.sampling_set.items) (sym pairs) (subst (λ k. AreKeys old.sampling.items k.items) (sym keys) h.sampling_set);
}
