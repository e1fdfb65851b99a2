-- Components index by index.
use Rattle.std.proofs.Common.{◌≡◌, ◌<◌, ◌≤◌, ◌+◌, ◌⊎◌, inl, inr, ◌↔◌, ℕ, zero, suc, List, [], ◌∷◌, Some, Bool, true, IsTrue, map, length, sum, take, min, slice_get, get_or, refl, sym, ap, subst, ◌∙◌, arith, rules}
use Rattle.std.proofs.lemmas.List.Sums.{sum-map, sum_by_more}
use Rattle.module_constants.specs.Compositions.{in_32_bits}
use Rattle.ir_types.specs.judged.Plain.{PlainMember, PlainType, member_view}
use Rattle.ir_types.specs.declared.types.StructMember.{StructMember}
use Rattle.module_constants.specs.Composed.{FitBelow, AllFit, IsMember}
use Rattle.spec_expressions.specs.judged.Compose.{scalars_in}
use Rattle.typing_forms.specs.judged.Forms.{form_of_type}
use Rattle.typing_forms.specs.declared.form.Form.{Form}

below_or_same : (h k : ℕ) → h < k + 1 → (h < k) ⊎ (h ≡ k)
below_or_same h k lt = search rules

pub fit_none : (May : ℕ → Form → Type 0) (forms : List Form) (place : ℕ) → place ≡ 0 → FitBelow May forms place
fit_none May forms place first = record { each = λ k f lt at. absurd (omega (arith, first, lt)) }

pub fit_more : (May : ℕ → Form → Type 0) (forms : List Form) (place : ℕ) (g : Form) → FitBelow May forms place → Some g ≡ slice_get forms place → May place g → FitBelow May forms (place + 1)
fit_more May forms place g before here fits = record {
  each = λ k f lt at. elim (below_or_same k place lt) [
    | inl less ↦ before.each k f less at
    | inr same ↦
        let there : slice_get forms place ≡ Some f = ap (slice_get forms) (sym same) ∙ at in
        let one : g ≡ f = cc in
        subst (λ n. May n f) (sym same) (subst (May place) one fits)
  ];
}

got_within : (forms : List Form) (k : ℕ) (f : Form) → slice_get forms k ≡ Some f → k < length forms
got_within [] k f e = cc
got_within (x ∷ xs) zero f e = omega arith
got_within (x ∷ xs) (suc k) f e = let h : k < length xs = got_within xs k f e in omega (arith, h)

pub fit_all : (May : ℕ → Form → Type 0) (forms : List Form) (place : ℕ) → FitBelow May forms place → length forms ≤ place → AllFit May forms
fit_all May forms place below all = record { each = λ k f at. below.each k f (let h = got_within forms k f at in omega (arith, h, all)) at }

-- ---- members

member_here : (ms : List StructMember) (k : ℕ) (d : StructMember) → k < length ms → slice_get (map member_view ms) k ≡ Some (member_view (get_or ms k d))
member_here [] k d lt = absurd (omega arith)
member_here (m ∷ ms) zero d lt = refl
member_here (m ∷ ms) (suc k) d lt = member_here ms k d (omega arith)

member_within : (ms : List StructMember) (k : ℕ) (m : PlainMember) → slice_get (map member_view ms) k ≡ Some m → k < length ms
member_within [] k m e = cc
member_within (x ∷ xs) zero m e = omega arith
member_within (x ∷ xs) (suc k) m e = let h : k < length xs = member_within xs k m e in omega (arith, h)

pub member_fits : (types : List PlainType) (ms : List StructMember) (k : ℕ) (d : StructMember) (f t : Form) (r : Bool) → k < length ms → t ≡ form_of_type types (get_or ms k d).ty → IsTrue r ↔ (f ≡ t)
    → IsTrue r ↔ IsMember types (map member_view ms) k f
member_fits types ms k d f t r lt of same =
    let here : slice_get (map member_view ms) k ≡ Some (member_view (get_or ms k d)) = member_here ms k d lt in (
      λ yes m at. let one : member_view (get_or ms k d) ≡ m = cc in same.0 yes ∙ of ∙ ap (λ (x : PlainMember). form_of_type types x.ty) one,
      λ fits. same.1 (fits (member_view (get_or ms k d)) here ∙ sym of),
    )

pub member_past : (types : List PlainType) (ms : List StructMember) (k : ℕ) (f : Form) → length ms ≤ k → IsTrue true ↔ IsMember types (map member_view ms) k f
member_past types ms k f past = ((λ yes m at. let h : k < length ms = member_within ms k m at in absurd (omega (arith, h, past))), (λ fits. refl))

-- ---- sums

got : (forms : List Form) (k : ℕ) (g : Form) → Some g ≡ slice_get forms k → get_or forms k g ≡ g
got [] k g e = cc
got (x ∷ xs) zero g e = cc
got (x ∷ xs) (suc k) g e = got xs k g e

sum_take : (forms : List Form) (k : ℕ) (g : Form) → Some g ≡ slice_get forms k → sum (map scalars_in (take (k + 1) forms)) ≡ sum (map scalars_in (take k forms)) + scalars_in g
sum_take forms k g e =
    let whole = sum-map scalars_in (take (k + 1) forms) in
    let part = sum-map scalars_in (take k forms) in
    let step = sum_by_more scalars_in forms k g (got_within forms k g (sym e)) in
    let one = ap scalars_in (got forms k g e) in
    omega (arith, whole, part, step, one)

pub given_more : (forms : List Form) (k n a r : ℕ) (g : Form) → n ≡ in_32_bits (sum (map scalars_in (take k forms))) → Some g ≡ slice_get forms k → a ≡ scalars_in g → r ≡ min (n + a) 4294967295
    → r ≡ in_32_bits (sum (map scalars_in (take (k + 1) forms)))
given_more forms k n a r g before here adds is = let h = sum_take forms k g here in omega (arith, h, before, adds, is)

take_whole : (xs : List Form) (k : ℕ) → length xs ≤ k → take k xs ≡ xs
take_whole [] zero all = refl
take_whole [] (suc k) all = refl
take_whole (x ∷ xs) zero all = absurd (omega arith)
take_whole (x ∷ xs) (suc k) all = ap (λ (rest : List Form). x ∷ rest) (take_whole xs k (omega arith))

pub given_all : (forms : List Form) (k n : ℕ) → n ≡ in_32_bits (sum (map scalars_in (take k forms))) → length forms ≤ k → n ≡ in_32_bits (sum (map scalars_in forms))
given_all forms k n before all = before ∙ ap (λ (xs : List Form). in_32_bits (sum (map scalars_in xs))) (take_whole forms k all)
