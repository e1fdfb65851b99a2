-- At most one text is expected for given bytes.
use Rattle.std.proofs.Common.{◌≡◌, ◌↔◌, IsTrue, ℕ, Bool, true, false, List, ◌++◌, refl, sym, ap, subst, ◌∙◌}
use Rattle.ir_flags.specs.declared.settings.Settings.{Settings}
use Rattle.ir_items.specs.judged.Plain.{PlainModule}
use Rattle.ir_items.proofs.Returned.{one_returned}
use Rattle.document_reader.specs.judged.Plain.{PlainDocument}
use Rattle.document_reader.proofs.Seam.{one_document_lem}
use Rattle.judgement.specs.judged.Steps.{IsFinding, IsPrepared, IsScopeStrict}
use Rattle.judgement.specs.judged.Text.{text_of}
use Rattle.judgement.specs.declared.finding.Step.{Step}
use Rattle.judgement.specs.declared.finding.Step.TheVariants.{Layout, «Type», Typing, Expression, Constant, Override, Global, Function, Entry}
use Rattle.judgement.specs.declared.finding.Finding.{Finding}
use Rattle.judgement.specs.declared.finding.Finding.TheVariants.{Accepted, RefusedDocument, RefusedHandles, Refused}
use Rattle.spec_expressions.specs.judged.ModuleHandles.{HandlesOK}
use Rattle.judgement.specs.judged.ModuleSteps as step
use Rattle.judgement.proofs.OneReport.{one_report}
use Rattle.shader_check.proofs.Failing.{Family, up_to_overrides, at_variables, at_functions, at_entries, IsFailing, in_order, none_failing, failing_once}
use Rattle.shader_check.specs.judged.Theorem.{IsReportedIn, IsTextOn, of_document, no_document, OneText}

-- two decidable propositions with the same truth value are equal
same_truth : (a b : Bool) (P : Type 0) → IsTrue a ↔ P → IsTrue b ↔ P → a ≡ b
same_truth true true P x y = refl
same_truth true false P x y = absurd (let z = y.1 (x.0 refl) in cc)
same_truth false true P x y = absurd (let z = x.1 (y.0 refl) in cc)
same_truth false false P x y = refl

-- the step of an error's kind

abbrev pub step_in : Step → Family
step_in Layout = up_to_overrides step.layout
step_in «Type» = up_to_overrides step.type
step_in Typing = up_to_overrides step.typing
step_in Expression = up_to_overrides step.expression
step_in Constant = up_to_overrides step.constant
step_in Override = up_to_overrides step.override
step_in Global = at_variables
step_in Function = at_functions
step_in Entry = at_entries

abbrev pub step_back : Family → Step
step_back (up_to_overrides step.layout) = Layout
step_back (up_to_overrides step.type) = «Type»
step_back (up_to_overrides step.typing) = Typing
step_back (up_to_overrides step.expression) = Expression
step_back (up_to_overrides step.constant) = Constant
step_back (up_to_overrides step.override) = Override
step_back at_variables = Global
step_back at_functions = Function
step_back at_entries = Entry

back : (t : Step) → step_back (step_in t) ≡ t
back Layout = refl
back «Type» = refl
back Typing = refl
back Expression = refl
back Constant = refl
back Override = refl
back Global = refl
back Function = refl
back Entry = refl

module _ (s : Settings) (m : PlainModule) where
  abbrev Fails : Family → ℕ → Type 0
  Fails = IsFailing s false m

  as_failing : (t : Step) (i : ℕ) → IsFinding s m (Refused t i) → Fails (step_in t) i
  as_failing Layout i x = x
  as_failing «Type» i x = x
  as_failing Typing i x = x
  as_failing Expression i x = x
  as_failing Constant i x = x
  as_failing Override i x = x
  as_failing Global i x = x
  as_failing Function i x = x
  as_failing Entry i x = x

  handles_in_order : (o : Family) (i : ℕ) → Fails o i → HandlesOK m
  handles_in_order o i x = in_order s false m o i x

  not_accepted : (o : Family) (i : ℕ) (strict : Bool) → IsFinding s m (Accepted strict) → Fails o i → ⊥
  not_accepted o i strict x y = none_failing s false m o i x.0 x.1 x.2 x.3 y

  refused_once : (t u : Step) (i j : ℕ) → IsFinding s m (Refused t i) → IsFinding s m (Refused u j) → Refused t i ≡ Refused u j
  refused_once t u i j x y =
      let e = failing_once s false m (step_in t) (step_in u) i j (as_failing t i x) (as_failing u j y) in
      let same = sym (back t) ∙ (ap step_back e.0 ∙ back u) in
      ap (λ v. Refused v i) same ∙ ap (Refused u) e.1

  finding_once : (f g : Finding) → IsFinding s m f → IsFinding s m g → f ≡ g
  finding_once RefusedDocument g x y = absurd x
  finding_once f RefusedDocument x y = absurd y
  finding_once (Accepted strict) (Accepted other) x y = ap Accepted (same_truth strict other (IsScopeStrict s.flags) x.4 y.4)
  finding_once (Accepted strict) RefusedHandles x y = absurd (y x.0.handles)
  finding_once (Accepted strict) (Refused t j) x y = absurd (not_accepted (step_in t) j strict x (as_failing t j y))
  finding_once RefusedHandles (Accepted strict) x y = absurd (x y.0.handles)
  finding_once RefusedHandles RefusedHandles x y = refl
  finding_once RefusedHandles (Refused t j) x y = absurd (x (handles_in_order (step_in t) j (as_failing t j y)))
  finding_once (Refused t i) (Accepted strict) x y = absurd (not_accepted (step_in t) i strict y (as_failing t i x))
  finding_once (Refused t i) RefusedHandles x y = absurd (y (handles_in_order (step_in t) i (as_failing t i x)))
  finding_once (Refused t i) (Refused u j) x y = refused_once t u i j x y

-- one module is validated for a document
pub prepared_once : (returns : Bool) (m n k : PlainModule) → IsPrepared returns m n → IsPrepared returns m k → n ≡ k
prepared_once true m n k x y = one_returned m n x ∙ sym (one_returned m k y)
prepared_once false m n k x y = x ∙ sym y

-- ---- the text for a document

reported_once : (m : PlainModule) (f : Finding) (a b : List ℕ) → IsReportedIn m f a → IsReportedIn m f b → a ≡ b
reported_once m (Accepted strict) a b x y = one_report m a b x y
reported_once m RefusedDocument a b x y = x ∙ sym y
reported_once m RefusedHandles a b x y = x ∙ sym y
reported_once m (Refused t i) a b x y = x ∙ sym y

module _ (d : PlainDocument) (s t : List ℕ) (x : IsTextOn d s) (y : IsTextOn d t) where
  same_module : y.judged ≡ x.judged
  same_module = prepared_once d.returns d.content y.judged x.judged y.prepared x.prepared

  same_finding : x.finding ≡ y.finding
  same_finding = finding_once d.settings x.judged x.finding y.finding x.found (subst (λ m. IsFinding d.settings m y.finding) same_module y.found)

  same_behind : x.behind ≡ y.behind
  same_behind =
      let there : IsReportedIn x.judged y.finding y.behind = subst (λ m. IsReportedIn m y.finding y.behind) same_module y.reported in
      reported_once x.judged x.finding x.behind y.behind x.reported (subst (λ f. IsReportedIn x.judged f y.behind) (sym same_finding) there)

  text_once : s ≡ t
  text_once = x.text_is ∙ (ap (λ f. text_of f ++ x.behind) same_finding ∙ (ap (λ z. text_of y.finding ++ z) same_behind ∙ sym y.text_is))

pub one_text_lem : OneText
one_text_lem bytes s t (no_document x a) (no_document y b) = a ∙ sym b
one_text_lem bytes s t (no_document x a) (of_document d r b) = absurd (x d r)
one_text_lem bytes s t (of_document d r a) (no_document y b) = absurd (y d r)
one_text_lem bytes s t (of_document d r a) (of_document e q b) = text_once d s t a (subst (λ z. IsTextOn z t) (one_document_lem bytes e d q r) b)
