-- The first index from another on that passes a test, and the look-up by these indices.
use Rattle.std.proofs.Common.{◌≡◌, ◌⊎◌, inl, inr, ⊎_elim, ℕ, zero, suc, ◌+◌, ◌<◌, ◌≤◌, Bool, true, false, IsTrue, ◌||◌, ◌&&◌, cond, nat_lt, List, [], ◌∷◌, length, Option, Some, None, slice_get, slice_index_or, slice_set, get_or, refl, sym, ap, ◌∙◌, subst, arith, true≢false}
use Rattle.std.proofs.lemmas.Bool.{cases_eq, cases_lt}
use Rattle.std.proofs.lemmas.Option.{get_or_from_slice_get, slice_get_within, slice_get_past}
use borrow.Author.Tests.{ltb-true, lt-ltb, eqb-true, eq-eqb}
use Rattle.ir_kinds.specs.declared.diagnostics.Severity.{Severity}
use Rattle.ir_kinds.specs.declared.diagnostics.Severity.TheVariants.{Off, Info, Warning, Error}
use Rattle.spec_expressions.specs.declared.uniformity.Uniformity.{Uniformity}
use Rattle.spec_expressions.specs.declared.uniformity.TheConstants.UniformityRequirements.{DERIVATIVE, IMPLICIT_LEVEL, COOP_OPS}
use Rattle.spec_expressions.specs.judged.Uniformity.{Counts, cooperative, derivative, implicit_level, Required, EmitRequires}
use Rattle.spec_expressions.specs.found.Found.{IsLook}
use Rattle.typing_uniformity.specs.Requiring.{required_of, requirement_in, is_error, counts, asks, IsNext, AreNext, required_with, required_from, look_of}

-- ---- steps of the loop

-- at the end of the list
pub next_end : (test : ℕ → Bool) (count : ℕ) → IsNext test count count count
next_end test count = record { ahead = omega arith; within = omega arith; passes = λ lt. absurd (omega arith); between = λ k from to. absurd (omega arith) }

pub next_here : (test : ℕ → Bool) (count place : ℕ) → place < count → test place ≡ true → IsNext test count place place
next_here test count place lt e = record { ahead = omega arith; within = omega arith; passes = λ _. e; between = λ k from to. absurd (omega arith) }

pub next_before : (test : ℕ → Bool) (count place later first : ℕ) → later ≡ place + 1 → test place ≡ false → IsNext test count later first → IsNext test count place first
next_before test count place later first step fails n =
    let ahead = n.ahead in
    let within = n.within in
    record { ahead = omega arith; within = within; passes = n.passes; between = between }
  where
    between : (k : ℕ) → place ≤ k → k < first → test k ≡ false
    between k from to = elim (cases_eq k place) [ inl same ↦ subst (λ x. test x ≡ false) (sym same) fails | inr other ↦ n.between k (omega arith) to ]

-- ---- requirements that count

error_is : (severity : Severity) → is_error severity ≡ true → severity ≡ Error
error_is Off e = cc
error_is Info e = cc
error_is Warning e = cc
error_is Error e = refl

is_the_error : (severity : Severity) → severity ≡ Error → is_error severity ≡ true
is_the_error severity e = ap is_error e

both_true : (a b : Bool) → (a && b) ≡ true → (a ≡ true) × (b ≡ true)
both_true true b e = (refl, e)
both_true false b e = cc

or_true : (a b : Bool) → (a || b) ≡ true → (a ≡ true) ⊎ (b ≡ true)
or_true true b e = inl refl
or_true false b e = inr e

left_or : (a b : Bool) → a ≡ true → (a || b) ≡ true
left_or true b e = refl
left_or false b e = cc

right_or : (a b : Bool) → b ≡ true → (a || b) ≡ true
right_or true b e = refl
right_or false b e = e

true_both : (a b : Bool) → a ≡ true → b ≡ true → (a && b) ≡ true
true_both true b e f = f
true_both false b e f = cc

pub counted : (severity : Severity) (bits : ℕ) → counts severity bits ≡ true → Counts severity bits
counted severity bits e =
    elim (or_true _ _ e) [
      | inl c ↦ subst (Counts severity) (sym (eqb-true bits COOP_OPS.0 c)) cooperative
      | inr d ↦
          let both = both_true (is_error severity) _ d in
          let is = error_is severity both.0 in
          elim (or_true _ _ both.1) [
            | inl x ↦ subst (Counts severity) (sym (eqb-true bits DERIVATIVE.0 x)) (derivative is)
            | inr x ↦ subst (Counts severity) (sym (eqb-true bits IMPLICIT_LEVEL.0 x)) (implicit_level is)
          ]
    ]

pub counting : (severity : Severity) (bits : ℕ) → Counts severity bits → counts severity bits ≡ true
counting severity _ cooperative = refl
counting severity _ (derivative is) = ap (λ b. b && true) (is_the_error severity is)
counting severity _ (implicit_level is) = ap (λ b. b && true) (is_the_error severity is)

-- ---- the look-up

within_or_past : {A : Type 0} (xs : List A) (k : ℕ) → ((u : A) × (slice_get xs k ≡ Some u)) ⊎ (length xs ≤ k)
within_or_past [] k = inr (omega arith)
within_or_past (x ∷ xs) zero = inl (x, refl)
within_or_past (x ∷ xs) (suc k) = elim (within_or_past xs k) [ inl h ↦ inl h | inr h ↦ inr (omega arith) ]

module _ (severity : Severity) (uniformities : List Uniformity) (next : List ℕ) (are : AreNext (asks severity uniformities) (length uniformities) next) where
  next_at : (first place : ℕ) → slice_get next first ≡ Some place → IsNext (asks severity uniformities) (length uniformities) first place
  next_at first place e =
      let inside : first < length next = slice_get_within next first place e in
      let len = are.len in
      subst (λ p. IsNext (asks severity uniformities) (length uniformities) first p) (get_or_from_slice_get next first place 0 e) (are.each first (omega arith))

  with_is : (end place : ℕ) (u : Uniformity) (x : Required) → (t : Bool) → nat_lt place end ≡ t → cond {A = Option Required} t (Some (record { requirement = u.requirements.0; expression = place })) None ≡ Some x
      → (place < end) × (record { requirement = u.requirements.0; expression = place } ≡ x)
  with_is end place u x true lt e = (ltb-true place end lt, (let h = e in cc))
  with_is end place u x false lt e = cc

  found_with : (first end place : ℕ) (o : Option Uniformity) (x : Required) → IsNext (asks severity uniformities) (length uniformities) first place → slice_get uniformities place ≡ o → required_with end place o ≡ Some x
      → EmitRequires severity (required_of uniformities) first end x
  found_with first end place None x n at e = cc
  found_with first end place (Some u) x n at e =
      let w = with_is end place u x (nat_lt place end) refl e in
      let inside : place < length uniformities = slice_get_within uniformities place u at in
      let required : required_of uniformities place ≡ u.requirements.0 = ap requirement_in at in
      let asks_here : counts severity u.requirements.0 ≡ true = subst (λ r. counts severity r ≡ true) required (n.passes inside) in
      subst (EmitRequires severity (required_of uniformities) first end) w.1
      (record { from_first = n.ahead; below_end = w.0; requirement = sym required; counts = counted severity u.requirements.0 asks_here })

  found_from : (first end : ℕ) (o : Option ℕ) (x : Required) → slice_get next first ≡ o → required_from uniformities end o ≡ Some x → EmitRequires severity (required_of uniformities) first end x
  found_from first end None x at e = cc
  found_from first end (Some place) x at e = found_with first end place (slice_get uniformities place) x (next_at first place at) refl e

  -- an expression with a requirement is in the range
  asking_within : (k : ℕ) → asks severity uniformities k ≡ true → k < length uniformities
  asking_within k e = inside (slice_get uniformities k) refl
    where
      inside : (o : Option Uniformity) → slice_get uniformities k ≡ o → k < length uniformities
      inside None at = absurd (nothing_counts severity (subst (λ r. counts severity r ≡ true) (ap requirement_in at) e))
        where
          nothing_counts : (s : Severity) → counts s 0 ≡ true → ⊥
          nothing_counts Off e = cc
          nothing_counts Info e = cc
          nothing_counts Warning e = cc
          nothing_counts Error e = cc
      inside (Some u) at = slice_get_within uniformities k u at

  -- an index before the end that has a requirement is found
  not_none : (end place : ℕ) (u : Uniformity) → place < end → required_with end place (Some u) ≡ None → ⊥
  not_none end place u lt e = with_none (nat_lt place end) (lt-ltb place end lt) e
    where
      with_none : (t : Bool) → t ≡ true → cond {A = Option Required} t (Some (record { requirement = u.requirements.0; expression = place })) None ≡ None → ⊥
      with_none true is e = cc
      with_none false is e = cc

  at_place : (first end place : ℕ) (x : Required) → IsNext (asks severity uniformities) (length uniformities) first place → EmitRequires severity (required_of uniformities) first end x
      → required_from uniformities end (Some place) ≡ None → ⊥
  at_place first end place x n ask e =
      let test : asks severity uniformities x.expression ≡ true = subst (λ r. counts severity r ≡ true) ask.requirement (counting severity x.requirement ask.counts) in
      let inside = asking_within x.expression test in
      let first_le = ask.from_first in
      let below = ask.below_end in
      let not_before : place ≤ x.expression = (elim (cases_lt x.expression place) [
        | inl lt ↦ absurd (true≢false (sym test ∙ n.between x.expression first_le lt))
        | inr le ↦ le
      ]) in
      elim (within_or_past uniformities place) [
        | inl h ↦ not_none end place h.0 (omega arith) (ap (required_with end place) (sym h.1) ∙ e)
        | inr past ↦ absurd (let z : x.expression < x.expression = omega (arith, past, inside, not_before) in omega (arith, z))
      ]

  none_from : (first end : ℕ) (x : Required) → look_of uniformities next first end ≡ None → EmitRequires severity (required_of uniformities) first end x → ⊥
  none_from first end x e ask =
      let test : asks severity uniformities x.expression ≡ true = subst (λ r. counts severity r ≡ true) ask.requirement (counting severity x.requirement ask.counts) in
      let inside = asking_within x.expression test in
      let first_le = ask.from_first in
      let len = are.len in
      elim (within_or_past next first) [
        | inl h ↦ at_place first end h.0 x (next_at first h.0 h.1) ask (ap (required_from uniformities end) (sym h.1) ∙ e)
        | inr past ↦ absurd (let z : x.expression < x.expression = omega (arith, past, inside, first_le, len) in omega (arith, z))
      ]

  pub is_look : IsLook severity (required_of uniformities) (look_of uniformities next)
  is_look = record { found = λ first end x e. found_from first end (slice_get next first) x refl e; none = none_from }
