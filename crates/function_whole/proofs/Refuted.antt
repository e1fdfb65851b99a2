-- A function with a fault is not accepted.
use Rattle.std.proofs.Common.{◌≡◌, inl, inr, ◌<◌, suc, ℕ, Option, Bool, List, [], ◌∷◌, Some, length, refl, sym, ap, subst, slice_get, ◌∙◌, arith}
use Rattle.function_body_checks.proofs.ControlRefuted.{faults_refute_lem as by_control}
use Rattle.typing_errors.specs.declared.expressions.ExpressionError.{ExpressionError}
use Rattle.typing_errors.specs.declared.error.FunctionError.{FunctionError}
use Rattle.typing_errors.specs.declared.error.FunctionError.TheVariants as error
use Rattle.typing_errors.specs.declared.calls.CallError.{CallError}
use Rattle.typing_errors.specs.declared.calls.CallError.TheVariants as call_error
use Rattle.function_interface.specs.Analysis.{Faults}
use Rattle.function_interface.proofs.InterfaceRefuted.{faults_refute_lem as by_interface}
use Rattle.ir_flags.specs.Sets.{Has}
use Rattle.ir_flags.specs.declared.settings.Capabilities.{Capabilities}
use Rattle.ir_flags.specs.declared.settings.TheConstants.ValidationFlags.{EXPRESSIONS}
use Rattle.ir_flags.specs.declared.settings.ValidationFlags.{ValidationFlags}
use Rattle.ir_flags.specs.declared.settings.Settings.{Settings}
use Rattle.ir_blocks.specs.judged.Places.{Place}
use Rattle.ir_items.specs.judged.Plain.{PlainFunction, PlainModule}
use Rattle.function_statements.proofs.OperationRefuted.{faults_refute_lem as by_ray}
use Rattle.function_body_checks.proofs.Refuted.{faults_refute_lem as by_scope}
use Rattle.spec_expressions.specs.judged.CallArities.{AritiesMatch}
use Rattle.spec_statements.specs.judged.BlockContext.{BlockContext}
use Rattle.spec_statements.specs.judged.Functions.{Reading, AreFormsBy, BodyOK, FunctionOK, block_context}
use Rattle.spec_statements.specs.judged.Interfaces.{InterfaceOK}
use Rattle.function_statements.proofs.Refuted.{faults_refute_lem as by_statement}
use Rattle.function_strict_scope.proofs.Refuted.{strict_faults_refute_lem as by_strict}
use Rattle.typing_forms.specs.declared.form.Form.{Form}
use Rattle.typing_handles.proofs.OrderLaws.{wrong_refutes}
use Rattle.typing_handles.specs.Tests.{fault_at}
use Rattle.function_interface.specs.Arities.{IsArityErrorAt, IsArityFaultAt}
use Rattle.function_whole.specs.Faults.{IsExpressionFault, IsFaultOfBodyAt, IsUnanswered, IsFaultAfter, in_interface, in_expressions, in_body, unanswered, IsFunctionFault, IsFunctionFaultAt, in_arity, in_analysis, behind}

-- ---- the forms of a function's expressions are one list

same_lists : (xs ys : List Form) → length xs ≡ length ys → ((i : ℕ) (x y : Form) → slice_get xs i ≡ Some x → slice_get ys i ≡ Some y → x ≡ y) → xs ≡ ys
same_lists [] [] many each = refl
same_lists [] (y ∷ ys) many each = absurd (omega (arith, many))
same_lists (x ∷ xs) [] many each = absurd (omega (arith, many))
same_lists (x ∷ xs) (y ∷ ys) many each =
    let head : x ≡ y = each 0 x y refl refl in
    let tail : xs ≡ ys = same_lists xs ys (omega (arith, many)) (λ i a b at there. each (suc i) a b at there) in
    ap (λ z. z ∷ xs) head ∙ ap (λ zs. y ∷ zs) tail

abbrev pub OneForm : Reading → Type 0
OneForm R = (e : ℕ) (s t : Form) → R.HasForm e s → R.HasForm e t → s ≡ t

same_forms : (R : Reading) (f : PlainFunction) (xs ys : List Form) → OneForm R → AreFormsBy R f xs → AreFormsBy R f ys → xs ≡ ys
same_forms R f xs ys one a b = same_lists xs ys (a.many ∙ sym b.many) (λ i x y at there. one i x y (a.each i x at) (b.each i y there))

-- ---- each part

arity_refuted : (m : PlainModule) (f : PlainFunction) (function : ℕ) (e : CallError) (p : Place) → IsArityErrorAt m f function e p → AritiesMatch m f → ⊥
arity_refuted m f function (call_error.ArgumentCount required seen) p w ok = wrong_refutes m f (fault_at function (Some required) seen) p w ok
arity_refuted m f function _ p w ok = absurd w

arities_refuted : (m : PlainModule) (f : PlainFunction) (e : FunctionError) (p : Place) → IsArityFaultAt m f e p → AritiesMatch m f → ⊥
arities_refuted m f (error.InvalidCall function e) p w ok = arity_refuted m f function e p w ok
arities_refuted m f _ p w ok = absurd w

body_refuted : (s : Settings) (before : Option ℕ) (c : BlockContext) (e : FunctionError) (p : Place) → IsFaultOfBodyAt s before c e p → BodyOK s before c → ⊥
body_refuted s before c e p (inl control) ok = by_control c.f.body e (p, control) ok.control
body_refuted s before c e p (inr (inl scope)) ok = by_scope s.flags c.f e (p, scope) ok.scope ok.answered.once ok.answered.asked
body_refuted s before c e p (inr (inr (inl rule))) ok = (by_statement c e).body (p, rule) ok.statements
body_refuted s before c e p (inr (inr (inr (inl payloads)))) ok = (by_ray c e).payloads before (p, payloads) ok.payloads
body_refuted s before c e p (inr (inr (inr (inr strict)))) ok = by_strict c.f e (p, strict.1) (ok.strict strict.0)

abbrev pub AnalysisRefutes : Reading → Faults → Type 0
AnalysisRefutes R F = (flags : ValidationFlags) (e : FunctionError) → F.IsAnalysisFault flags e → R.IsAnalysed flags → ⊥

abbrev pub ExpressionsRefute : Reading → Faults → Type 0
ExpressionsRefute R F = (capabilities : Capabilities) (forms : List Form) (e : ℕ) (x : ExpressionError) → F.IsFaultAt capabilities forms e x → R.IsAccepted capabilities forms e → ⊥

module _ (R : Reading) (F : Faults) (s : Settings) (entry : Bool) (before : Option ℕ) where
  expressions_refuted : (c : BlockContext) (e : FunctionError) → ExpressionsRefute R F → IsExpressionFault R F c e → ((k : ℕ) → k < length c.f.expressions → R.IsAccepted c.capabilities c.forms k) → ⊥
  expressions_refuted c (error.Expression e x) refutes w ok = refutes c.capabilities c.forms e x w.wrong (ok e w.within)
  expressions_refuted c _ refutes w ok = absurd w

  unanswered_refuted : (f : PlainFunction) (e : FunctionError) → IsUnanswered f e → (m : PlainModule) (forms : List Form) → BodyOK s before (block_context s m f forms) → Has s.flags.0 EXPRESSIONS.0 → ⊥
  unanswered_refuted f (error.UnvisitedExpression e) w m forms ok asked = let found = ok.answered.each asked e w.stands in w.none found.0 found.1
  unanswered_refuted f _ w m forms ok asked = absurd w

  behind_refuted : (m : PlainModule) (f : PlainFunction) (forms : List Form) (e : FunctionError) (p : Place) → ExpressionsRefute R F
      → IsFaultAfter R F s entry before (block_context s m f forms) e p → (ok : FunctionOK R s entry before m f) → ok.forms ≡ forms → ⊥
  behind_refuted m f forms e p refutes (in_interface w) ok same = (by_interface (block_context s m f forms) entry e).interface w (subst (λ (x : List Form). InterfaceOK (block_context s m f x) entry) same ok.interface)
  behind_refuted m f forms e p refutes (in_expressions interface asked w) ok same = expressions_refuted (block_context s m f forms) e refutes w (λ k lt. subst (λ (x : List Form). R.IsAccepted s.capabilities x k) same (ok.expressions asked k lt))
  behind_refuted m f forms e p refutes (in_body interface accepted asked w) ok same = body_refuted s before (block_context s m f forms) e p w (subst (λ (x : List Form). BodyOK s before (block_context s m f x)) same (ok.body asked))
  behind_refuted m f forms e p refutes (unanswered interface accepted asked ordered expressions w) ok same = unanswered_refuted f e w m ok.forms (ok.body asked) expressions

  refuted_at : (m : PlainModule) (f : PlainFunction) (e : FunctionError) (p : Place) → OneForm R → AnalysisRefutes R F → ExpressionsRefute R F → IsFunctionFaultAt R F s entry before m f e p → FunctionOK R s entry before m f → ⊥
  refuted_at m f e p one analysis refutes (in_arity w) ok = arities_refuted m f e p w ok.arity
  refuted_at m f e p one analysis refutes (in_analysis arity w) ok = analysis s.flags e w ok.analysed
  refuted_at m f e p one analysis refutes (behind arity analysed forms typed w) ok = behind_refuted m f forms e p refutes w ok (same_forms R f ok.forms forms one ok.typed typed)

  pub function_refuted : (m : PlainModule) (f : PlainFunction) (e : FunctionError) → OneForm R → AnalysisRefutes R F → ExpressionsRefute R F → IsFunctionFault R F s entry before m f e → FunctionOK R s entry before m f → ⊥
  function_refuted m f e one analysis refutes w ok = refuted_at m f e w.0 one analysis refutes w.1 ok
