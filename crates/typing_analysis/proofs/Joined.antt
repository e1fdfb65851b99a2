-- The result for a function, from its summary.
use Rattle.std.proofs.Common.{ℕ, List, Option, Some, None, sym, ◌∙◌, subst, inl, inr, length, ◌<◌}
use Rattle.typing_infos.specs.Infos.{summary_of}
use Rattle.typing_infos.specs.declared.function_info.FunctionInfo.{FunctionInfo}
use Rattle.spec_expressions.specs.judged.Faults.{FunctionFault}
use Rattle.typing_errors.specs.declared.error.FunctionError.{FunctionError}
use Rattle.ir_types.specs.found.Faults.{error_of}
use Rattle.ir_types.specs.declared.refusal.Refusal.{Refusal}
use Rattle.ir_types.specs.declared.refusal.Refusal.TheVariants as refusal
use Rattle.ir_flags.specs.declared.settings.ValidationFlags.{ValidationFlags}
use Rattle.ir_items.specs.judged.Plain.{PlainFunction, PlainModule}
use Rattle.spec_expressions.proofs.Members.{get-within}
use Rattle.spec_expressions.proofs.SummaryLaws.{joined_by_callees}
use Rattle.spec_expressions.specs.judged.Summaries.{Summary, CallsOne, IsFormFault, AgreeOnCallees}
use Rattle.spec_expressions.specs.judged.Uniformity.{Required}
use Rattle.spec_expressions.specs.judged.Context.{inside}
use Rattle.spec_expressions.specs.declared.faults.TypingFault.{TypingFault}
use Rattle.std.proofs.lemmas.Option.{slice_get_within}
use Rattle.typing_analysis.specs.Infos.{IsFunctionInfo, AreExpressionInfos}
use Rattle.typing_analysis.specs.Processed.{IsAnalysisFault, untyped, wrong_form, non_uniform, IsAnalysisRefusal, IsAnalysed}
use Rattle.typing_errors.specs.Answers.{fault_of, ReportsFault}

-- ---- only the summaries of callees matter

module _ (flags : ValidationFlags) (m : PlainModule) (f : PlainFunction) (summaries others : List Summary) (agree : AgreeOnCallees f summaries others) where
  one_agrees : (arguments : List ℕ) (t : Summary) → CallsOne f summaries arguments t → CallsOne f others arguments t
  one_agrees arguments t c = record { callee = c.callee; call = c.call; found = sym (agree c.callee arguments c.call) ∙ c.found }

  form_agrees : (e : ℕ) → IsFormFault f summaries e → IsFormFault f others e
  form_agrees e (inl own) = inl own
  form_agrees e (inr (arguments, t, q, calls, among, wrong)) = inr (arguments, t, q, one_agrees arguments t calls, among, wrong)

  fault_agrees : (e : FunctionError) → IsAnalysisFault flags m f summaries e → IsAnalysisFault flags m f others e
  fault_agrees _ (untyped tells) = untyped tells
  fault_agrees _ (wrong_form {e = e} fault) = wrong_form (form_agrees e fault)
  fault_agrees _ (non_uniform fault) = non_uniform fault

  info_agrees : (info : FunctionInfo) → IsFunctionInfo m f summaries info → IsFunctionInfo m f others info
  info_agrees info is = record {
    expressions = is.expressions;
    globals = is.globals;
    joined = joined_by_callees f summaries others agree (length m.globals) (summary_of info) is.joined;
    sampling_set = is.sampling_set;
    available_stages = is.available_stages;
    dual_source_blending = is.dual_source_blending;
  }

  pub refusal_agrees : (r : Refusal FunctionError) → IsAnalysisRefusal flags m f summaries r → IsAnalysisRefusal flags m f others r
  refusal_agrees (refusal.Memory e) is = tt
  refusal_agrees (refusal.Fault e) is = (fault_agrees (error_of e) is.0, is.1)

module _ (flags : ValidationFlags) (m : PlainModule) (f : PlainFunction) (summaries others : List Summary) (agree : AgreeOnCallees f summaries others) where
  agree_back : AgreeOnCallees f others summaries
  agree_back callee arguments call = sym (agree callee arguments call)

  pub analysed_agrees : (info : FunctionInfo) → IsAnalysed flags m f summaries info → IsAnalysed flags m f others info
  analysed_agrees info is = record {
    info = info_agrees flags m f summaries others agree info is.info;
    clear = λ e fault. is.clear e (fault_agrees flags m f others summaries agree_back e fault);
  }

-- ---- no fault holds

module _ (flags : ValidationFlags) (m : PlainModule) (f : PlainFunction) (summaries : List Summary) (info : FunctionInfo) (infos : AreExpressionInfos m f info.expressions.items) where
  typed_clear : (e : ℕ) (o : Option TypingFault) → ReportsFault (inside m f) f.expressions e o → ⊥
  typed_clear e None tells = tells
  typed_clear e (Some fault) tells =
      let w = get-within info.expressions.items e (subst (λ n. e < n) (sym infos.len) (slice_get_within f.expressions e tells.faulty.expression tells.faulty.stands)) in
      tells.none _ (infos.each e w.0 w.1).ty

  all_clear : ((e : ℕ) → IsFormFault f summaries e → ⊥) → ((x : Required) → FunctionFault flags m f x → ⊥) → (e : FunctionError) → IsAnalysisFault flags m f summaries e → ⊥
  all_clear forms uniform _ (untyped {e = e} {error = error} tells) = typed_clear e (fault_of error) tells
  all_clear forms uniform _ (wrong_form {e = e} fault) = forms e fault
  all_clear forms uniform _ (non_uniform {r = r} {e = e} fault) = uniform (record { requirement = r.0; expression = e }) fault

-- the `FunctionInfo` of a function in which no operand is of a wrong form and no requirement of uniformity is violated
module _ (flags : ValidationFlags) (m : PlainModule) (f : PlainFunction) (summaries : List Summary) (info : FunctionInfo) (is : IsFunctionInfo m f summaries info) where
  pub is_analysed : ((e : ℕ) → IsFormFault f summaries e → ⊥) → ((x : Required) → FunctionFault flags m f x → ⊥) → IsAnalysed flags m f summaries info
  is_analysed forms uniform = record { info = is; clear = all_clear flags m f summaries info is.expressions forms uniform }
