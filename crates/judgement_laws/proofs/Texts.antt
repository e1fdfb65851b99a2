-- Lines that occur in a text.
use Rattle.std.proofs.Common.{◌≡◌, inl, inr, ℕ, zero, suc, ◌+◌, List, [], ◌∷◌, ◌++◌, Bool, true, false, Some, refl, sym, ap, subst, ◌∙◌, slice_get, append_assoc, append-nil, arith, if◌then◌else◌}
use Rattle.std.specs.Prelude.{codes, flat_map}
use Rattle.typing_rules.specs.judged.Laws.{IsAmong}
use Rattle.judgement_laws.specs.judged.Lines.{HasLines}
use Rattle.judgement_laws.specs.found.Whole.{AreWhole}
use Rattle.judgement.specs.judged.Lines.{each_from}

pub whole_end : (front : List ℕ) → AreWhole (front ++ codes "\n")
whole_end front = inr (front, refl)

pub whole_append : (a b : List ℕ) → AreWhole a → AreWhole b → AreWhole (a ++ b)
whole_append a b wa (inl e) = subst AreWhole (sym (ap (λ t. a ++ t) e ∙ append-nil a)) wa
whole_append a b wa (inr f) = inr (a ++ f.0, ap (λ t. a ++ t) f.1 ∙ sym (append_assoc a f.0 (codes "\n")))

pub whole_if : (b : Bool) (text : List ℕ) → AreWhole text → AreWhole (if b then text else [])
whole_if true text w = w
whole_if false text w = inl refl

pub whole_each : {X : Type 0} (told : ℕ → X → List ℕ) → ((number : ℕ) (x : X) → AreWhole (told number x)) → (first : ℕ) (xs : List X) → AreWhole (each_from told first xs)
whole_each told whole first [] = inl refl
whole_each told whole first (x ∷ xs) = whole_append (told first x) (each_from told (suc first) xs) (whole first x) (whole_each told whole (suc first) xs)

pub whole_flat : {X : Type 0} (told : X → List ℕ) → ((x : X) → AreWhole (told x)) → (xs : List X) → AreWhole (flat_map told xs)
whole_flat told whole [] = inl refl
whole_flat told whole (x ∷ xs) = whole_append (told x) (flat_map told xs) (whole x) (whole_flat told whole xs)

pub has_itself : (lines : List ℕ) → HasLines lines lines
has_itself lines = record { before = []; behind = []; whole = inl refl; is = sym (append-nil lines) }

pub has_left : (lines a b : List ℕ) → HasLines lines a → HasLines lines (a ++ b)
has_left lines a b h = record {
  before = h.before;
  behind = h.behind ++ b;
  whole = h.whole;
  is = ap (λ t. t ++ b) h.is ∙ (append_assoc h.before (lines ++ h.behind) b ∙ ap (λ t. h.before ++ t) (append_assoc lines h.behind b));
}

pub has_right : (lines a b : List ℕ) → AreWhole a → HasLines lines b → HasLines lines (a ++ b)
has_right lines a b w h = record {
  before = a ++ h.before;
  behind = h.behind;
  whole = whole_append a h.before w h.whole;
  is = ap (λ t. a ++ t) h.is ∙ sym (append_assoc a h.before (lines ++ h.behind));
}

pub has_each : {X : Type 0} (told : ℕ → X → List ℕ) → ((number : ℕ) (x : X) → AreWhole (told number x)) → (first : ℕ) (xs : List X) (k : ℕ) (x : X) → slice_get xs k ≡ Some x
    → HasLines (told (first + k) x) (each_from told first xs)
has_each told whole first [] k x at = absurd (let e = at in cc)
has_each told whole first (y ∷ ys) zero x at =
    let is : y ≡ x = (let e = at in cc) in
    let n : first ≡ first + 0 = omega arith in
    has_left (told (first + 0) x) (told first y) (each_from told (suc first) ys) (subst (λ z. HasLines (told (first + 0) z) (told first y)) is (subst (λ j. HasLines (told j y) (told first y)) n (has_itself (told first y))))
has_each told whole first (y ∷ ys) (suc k) x at =
    let n : suc first + k ≡ first + suc k = omega arith in
    has_right (told (first + suc k) x) (told first y) (each_from told (suc first) ys) (whole first y)
    (subst (λ j. HasLines (told j x) (each_from told (suc first) ys)) n (has_each told whole (suc first) ys k x at))

pub has_flat : {X : Type 0} (told : X → List ℕ) → ((x : X) → AreWhole (told x)) → (xs : List X) (x : X) → IsAmong x xs → HasLines (told x) (flat_map told xs)
has_flat told whole [] x h = elim h [ ]
has_flat told whole (y ∷ ys) x (inl is) = has_left (told x) (told y) (flat_map told ys) (subst (λ z. HasLines (told z) (told y)) is (has_itself (told y)))
has_flat told whole (y ∷ ys) x (inr later) = has_right (told x) (told y) (flat_map told ys) (whole y) (has_flat told whole ys x later)
