-- What is read with summaries of the callees is read by chains of calls.
use Rattle.std.proofs.Common.{◌≡◌, ℕ, Bool, false, ◌<◌, List, length, Option, Some, None, sym, subst, ◌∙◌}
use Rattle.std.proofs.lemmas.Option.{same_Some, slice_get_within}
use Rattle.typing_errors.specs.declared.expressions.ExpressionError.TheVariants.{ExpectedGlobalOrArgument}
use Rattle.typing_errors.specs.declared.error.FunctionError.{FunctionError}
use Rattle.typing_errors.specs.declared.error.FunctionError.TheVariants.{Expression, NonUniformControlFlow}
use Rattle.typing_errors.specs.declared.disruptor.UniformityDisruptor.TheVariants.{Discard}
use Rattle.function_whole.specs.FunctionInterface.{question}
use Rattle.function_modules.specs.Judged.{IsAcceptedAt, IsRefusedAt}
use Rattle.ir_flags.specs.declared.settings.ValidationFlags.{ValidationFlags}
use Rattle.ir_flags.specs.declared.stages.ShaderStages.{ShaderStages}
use Rattle.ir_flags.specs.declared.settings.Settings.{Settings}
use Rattle.ir_items.specs.judged.Plain.{PlainFunction, PlainModule}
use Rattle.ir_places.specs.declared.trail.Trail.{Trail}
use Rattle.function_modules.specs.Readings.{reading_of, faults_of}
use Rattle.spec_expressions.specs.judged.Summaries.{Summary, CalleesKnown}
use Rattle.spec_expressions.proofs.Members.{get-within}
use Rattle.spec_expressions.specs.judged.Context.{inside}
use Rattle.spec_expressions.specs.declared.faults.TypingFault.{TypingFault}
use Rattle.spec_statements.proofs.FormLaws.{wrong_by_summaries, wrong_by_chains}
use Rattle.spec_statements.proofs.HeldLaws.{one_payload}
use Rattle.spec_statements.specs.judged.Analysis.{IsAnalysed}
use Rattle.spec_statements.specs.judged.ModuleFunctions.{reading_over, FunctionAtOK}
use Rattle.spec_statements.specs.judged.Functions.{FunctionOK, AreFormsBy}
use Rattle.typing_forms.specs.declared.form.Form.{Form}
use Rattle.typing_analysis.specs.Processed.{IsAnalysisFault, untyped, wrong_form, non_uniform}
use Rattle.typing_errors.specs.Answers.{fault_of, ReportsFault}

module _ (m : PlainModule) (f : PlainFunction) (summaries : List Summary) (stages callees : List ShaderStages) (known : CalleesKnown m f summaries) where
  analysed_by_chains : (flags : ValidationFlags) → ((e : FunctionError) → IsAnalysisFault flags m f summaries e → ⊥) → IsAnalysed flags m f
  analysed_by_chains flags clear = record {
    formed = λ e wrong. clear (Expression e ExpectedGlobalOrArgument) (wrong_form (wrong_by_summaries m f summaries known e wrong));
    uniform = λ x fault. clear (NonUniformControlFlow (record { 0 = x.requirement }) x.expression Discard) (non_uniform fault);
  }

  pub ok_by_chains : (s : Settings) (entry : Bool) (held : Option ℕ) → FunctionOK (reading_of (question m f summaries stages)) s entry held m f → FunctionOK (reading_over callees m f) s entry held m f
  ok_by_chains s entry held ok = record {
    arity = ok.arity;
    analysed = analysed_by_chains s.flags ok.analysed;
    forms = ok.forms;
    typed = record { many = ok.typed.many; each = ok.typed.each };
    interface = ok.interface;
    expressions = ok.expressions;
    body = ok.body;
  }

  has_no_type : (forms : List Form) → AreFormsBy (reading_over callees m f) f forms → (e : ℕ) (o : Option TypingFault) → ReportsFault (inside m f) f.expressions e o → ⊥
  has_no_type forms typed e None tells = tells
  has_no_type forms typed e (Some fault) tells =
      let lt : e < length f.expressions = slice_get_within f.expressions e tells.faulty.expression tells.faulty.stands in
      let found = get-within forms e (subst (λ n. e < n) (sym typed.many) lt) in
      tells.none found.0 (typed.each e found.0 found.1)

  no_fault : (flags : ValidationFlags) → IsAnalysed flags m f → (forms : List Form) → AreFormsBy (reading_over callees m f) f forms → (e : FunctionError) → IsAnalysisFault flags m f summaries e → ⊥
  no_fault flags a forms typed _ (untyped {e} {error} tells) = has_no_type forms typed e (fault_of error) tells
  no_fault flags a forms typed _ (wrong_form {e} wrong) = a.formed e (wrong_by_chains m f summaries known e wrong)
  no_fault flags a forms typed _ (non_uniform {r} {e} {d} fault) = a.uniform (record { requirement = r.0; expression = e }) fault

  pub ok_by_summaries : (s : Settings) (entry : Bool) (held : Option ℕ) → FunctionOK (reading_over callees m f) s entry held m f → FunctionOK (reading_of (question m f summaries stages)) s entry held m f
  ok_by_summaries s entry held ok = record {
    arity = ok.arity;
    analysed = no_fault s.flags ok.analysed ok.forms ok.typed;
    forms = ok.forms;
    typed = record { many = ok.typed.many; each = ok.typed.each };
    interface = ok.interface;
    expressions = ok.expressions;
    body = ok.body;
  }

module _ (s : Settings) (m : PlainModule) (index : ℕ) where
  pub accepted_at : IsAcceptedAt reading_of s m index → FunctionAtOK s m index
  accepted_at a = record {
    function = a.function;
    at = a.at;
    held = a.given.held;
    before = a.given.before;
    ok = λ callees. ok_by_chains m a.function a.given.summaries a.given.stages callees a.given.known s false a.given.held a.ok;
  }

  pub refused_at : (t : Trail) (e : FunctionError) → IsRefusedAt reading_of faults_of s m index t e → FunctionAtOK s m index → ⊥
  refused_at t e r ok =
      let same : ok.function ≡ r.function = same_Some _ _ (sym ok.at ∙ r.at) in
      let held : ok.held ≡ r.given.held = one_payload s.flags m index ok.held r.given.held ok.before r.given.before in
      r.refused
      (ok_by_summaries m r.function r.given.summaries r.given.stages r.given.stages r.given.known s false r.given.held
      (subst (λ h. FunctionOK (reading_over r.given.stages m r.function) s false h m r.function) held
      (subst (λ g. FunctionOK (reading_over r.given.stages m g) s false ok.held m g) same (ok.ok r.given.stages))))
