-- Calls with a wrong number of arguments in a body.
use Rattle.std.proofs.Common.{◌≡◌, ◌≢◌, ◌==◌, ℕ, List, length, Bool, true, false, true≢false, if◌then◌else◌, Option, Some, None, refl, sym, ap, ◌∙◌, subst, slice_get}
use Rattle.std.proofs.lemmas.Bool.{eq-eqb, eqb-true}
use Rattle.ir_blocks.specs.judged.Plain.{PlainStatement, call}
use Rattle.ir_blocks.specs.judged.Places.{Place, OccursAt}
use Rattle.ir_items.specs.judged.Plain.{PlainFunction, PlainModule}
use Rattle.typing_references.proofs.FirstLaws.{none_at, place_found}
use Rattle.typing_references.specs.First.{first_in}
use Rattle.spec_expressions.specs.judged.CallArities.{AritiesMatch}
use Rattle.typing_handles.specs.Tests.{count_of, fault_at, wrong_count, arity_fault_of, PassesWrongCount}
use Rattle.typing_handles.specs.declared.arities.ArityFault.{ArityFault}

-- ---- no such call

none_counted : (function seen : ℕ) (o : Option ℕ) → wrong_count function seen o ≡ None → o ≡ Some seen
none_counted function seen None e = absurd (let x = e in cc)
none_counted function seen (Some required) e = by_test (required == seen) refl e
  where
    by_test : (b : Bool) → (required == seen) ≡ b → (if b then None else Some (fault_at function (Some required) seen)) ≡ None → Some required ≡ Some seen
    by_test true is e = ap Some (eqb-true required seen is)
    by_test false is e = absurd (let x = e in cc)

counted_function : (o : Option PlainFunction) (seen : ℕ) → count_of o ≡ Some seen → (g : PlainFunction) × (o ≡ Some g) × (seen ≡ length g.arguments)
counted_function None seen e = absurd (let x = e in cc)
counted_function (Some g) seen e = (g, refl, (let x = e in cc))

pub arities : (m : PlainModule) (f : PlainFunction) → ((p : Place) (s : PlainStatement) → OccursAt f.body p s → arity_fault_of m s ≡ None) → AritiesMatch m f
arities m f none p callee arguments result stands =
    counted_function (slice_get m.functions callee) (length arguments) (none_counted callee (length arguments) (count_of (slice_get m.functions callee)) (none p (call callee arguments result) stands))

-- ---- some such call

record Counted (m : PlainModule) (s : PlainStatement) (x : ArityFault) : Type 0 where
  pub arguments : List ℕ
  pub answer : Option ℕ
  pub is : s ≡ call x.function arguments answer
  pub has : x.required ≡ count_of (slice_get m.functions x.function)
  pub passed : x.seen ≡ length arguments
  pub differs : x.required ≢ Some x.seen

some_counted : (function seen : ℕ) (o : Option ℕ) (x : ArityFault) → wrong_count function seen o ≡ Some x → (fault_at function o seen ≡ x) × (o ≢ Some seen)
some_counted function seen None x e = ((let y = e in cc), λ same. (let y = same in cc))
some_counted function seen (Some required) x e = by_test (required == seen) refl e
  where
    by_test : (b : Bool) → (required == seen) ≡ b → (if b then None else Some (fault_at function (Some required) seen)) ≡ Some x → (fault_at function (Some required) seen ≡ x) × (Some required ≢ Some seen)
    by_test true is e = absurd (let y = e in cc)
    by_test false is e = ((let y = e in cc), λ same. true≢false (sym (eq-eqb required seen (let y = same in cc)) ∙ is))

counted : (m : PlainModule) (s : PlainStatement) (x : ArityFault) → arity_fault_of m s ≡ Some x → Counted m s x
counted m (call function arguments answer) x e =
    let c = some_counted function (length arguments) (count_of (slice_get m.functions function)) x e in
    let same : function ≡ x.function = ap (λ (y : ArityFault). y.function) c.0 in
    let has : count_of (slice_get m.functions function) ≡ x.required = ap (λ (y : ArityFault). y.required) c.0 in
    let passed : length arguments ≡ x.seen = ap (λ (y : ArityFault). y.seen) c.0 in
    record {
      arguments = arguments;
      answer = answer;
      is = ap (λ h. call h arguments answer) same;
      has = subst (λ h. x.required ≡ count_of (slice_get m.functions h)) same (sym has);
      passed = sym passed;
      differs = λ e. c.1 (has ∙ e ∙ ap Some (sym passed));
    }
counted m _ x e = absurd (let y = e in cc)

pub wrong_found : (m : PlainModule) (f : PlainFunction) (x : ArityFault) (p : Place) → (s : PlainStatement) × OccursAt f.body p s × (arity_fault_of m s ≡ Some x) → PassesWrongCount m f x p
wrong_found m f x p found =
    let c = counted m found.0 x found.2 in
    record {
      arguments = c.arguments;
      answer = c.answer;
      stands = subst (λ s. OccursAt f.body p s) c.is found.1;
      has = c.has;
      passed = c.passed;
      differs = c.differs;
    }

pub wrong_refutes : (m : PlainModule) (f : PlainFunction) (x : ArityFault) (p : Place) → PassesWrongCount m f x p → AritiesMatch m f → ⊥
wrong_refutes m f x p w ok =
    let c = ok p x.function w.arguments w.answer w.stands in
    w.differs (w.has ∙ ap count_of c.1 ∙ ap Some (sym c.2 ∙ sym w.passed))

-- ---- by the first such call

pub none_first : (m : PlainModule) (f : PlainFunction) → first_in (arity_fault_of m) f.body ≡ None → AritiesMatch m f
none_first m f e = arities m f (λ p s stands. none_at (arity_fault_of m) p f.body e s stands)

pub first_refutes : (m : PlainModule) (f : PlainFunction) (x : ArityFault) → first_in (arity_fault_of m) f.body ≡ Some x → AritiesMatch m f → ⊥
first_refutes m f x e ok =
    let found = place_found (arity_fault_of m) f.body x e in wrong_refutes m f x found.0 (wrong_found m f x found.0 (found.1, found.2, found.3)) ok
