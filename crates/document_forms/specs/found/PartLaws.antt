-- Decoding agrees with the encoding relation: numbers, words and options.
use Rattle.std.proofs.Common.{◌≡◌, ◌⊎◌, inl, inr, ◌≤◌, ◌<◌, ℕ, ℤ, pos, negsuc, List, Option, Some, None, option_map, option_and_then, ◌&&◌, nat_le, nat_eq, int_lt, int_le, refl, sym, ap, subst, ◌∙◌, arith}
use Rattle.std.proofs.lemmas.Option.{same_Some}
use borrow.Author.Tests.{ltb-true, leb-true, le-leb, eqb-true}
use Rattle.serde_json.specs.Data.{Num, unsigned, negative, float, Data, null, boolean, number, string, array, object, depth}
use Rattle.serde_json.specs.Find.{as_str, as_bool, as_number, as_u64, as_i64, of_integer}
use Rattle.ir_kinds.specs.declared.scalars.VectorSize.{VectorSize}
use Rattle.ir_kinds.specs.declared.scalars.VectorSize.TheVariants.{Bi, Tri, Quad}
use Rattle.ir_kinds.specs.declared.scalars.CooperativeSize.{CooperativeSize}
use Rattle.ir_kinds.specs.declared.scalars.CooperativeSize.TheVariants.{Eight, Sixteen}
use Rattle.document_forms.specs.found.Exact.{deepest, IsExact}
use Rattle.document_forms.specs.judged.Form.{ANumber, ASigned, ABool, AText, AWord, AVectorSize, ACooperativeSize, Maybe}
use Rattle.document_forms.specs.found.Decide.{whole_of, number_of, small, below_zero, or_else, signed_of, size_of, side_of, word_in, is_null, optional}
use Rattle.document_forms.specs.found.Inverse.{bind_some, map_some, chosen, guarded, both_true, as_str_some, as_bool_some, as_number_some, whole_some, is_null_true}

-- ---- numbers

pub number_exact : (high : ℕ) → IsExact (number_of high) (ANumber high)
number_exact high = record { sound = found; complete = there }
  where
    found : (d : Data) (n : ℕ) → number_of high d ≡ Some n → ANumber high n d
    found d n e =
        let a = bind_some _ (whole_of d) n e in
        let g = guarded (nat_le a.0 high) (Some a.0) n a.2 in
        let n_is : a.0 ≡ n = same_Some a.0 n g.1 in
        subst (λ m. ANumber high m d) n_is (whole_some d a.0 a.1, leb-true a.0 high g.0)

    there : (d : Data) (n : ℕ) → ANumber high n d → depth d ≤ deepest → number_of high d ≡ Some n
    there d n h le = rw h.0 (rw (le-leb n high h.1) refl)

pub either_some : {A B : Type 0} (o : Option A) (f : A → Option B) (rest : Option B) (z : B) → or_else o f rest ≡ Some z
    → ((x : A) × (o ≡ Some x) × (f x ≡ Some z)) ⊎ ((o ≡ None) × (rest ≡ Some z))
either_some None f rest z e = inr (refl, e)
either_some (Some x) f rest z e = inl (x, refl, e)

small_some : (high n : ℕ) (z : ℤ) → small high n ≡ Some z → (pos n ≡ z) × (n ≤ high)
small_some high n z e =
    let g = guarded (nat_le n high) (Some (pos n)) z e in
    (same_Some _ _ g.1, leb-true n high g.0)

-- from `-(high + 1)` to `high`
abbrev pub Fits : ℕ → ℤ → Type 0
Fits high (pos n) = n ≤ high
Fits high (negsuc n) = n ≤ high

signed_written : (high : ℕ) (z : ℤ) (d : Data) → d ≡ number (of_integer z) → Fits high z → ASigned high z d
signed_written high (pos n) d e f = (e, f)
signed_written high (negsuc n) d e f = (e, f)

-- a negative number: its form and its range
below_some : (high : ℕ) (m : Num) (z : ℤ) → option_and_then (below_zero high) (as_i64 m) ≡ Some z → as_u64 m ≡ None → (m ≡ of_integer z) × Fits high z
below_some high (unsigned n) z e f = cc
below_some high (negative (pos n)) z e f =
    let g = guarded (int_lt (pos n) (pos 0) && int_le (negsuc high) (pos n)) (Some (pos n)) z e in
    let low : n < 0 = ltb-true n 0 (both_true _ _ g.0).0 in
    absurd (omega arith)
below_some high (negative (negsuc n)) z e f =
    let g = guarded (int_le (negsuc high) (negsuc n)) (Some (negsuc n)) z e in
    let z_is = same_Some (negsuc n) z g.1 in
    subst (λ x. (negative (negsuc n) ≡ of_integer x) × Fits high x) z_is (refl, leb-true n high g.0)
below_some high (float x) z e f = cc

pub signed_exact : (high : ℕ) → IsExact (signed_of high) (ASigned high)
signed_exact high = record { sound = found; complete = there }
  where
    found : (d : Data) (z : ℤ) → signed_of high d ≡ Some z → ASigned high z d
    found d z e =
        elim (either_some (whole_of d) (small high) _ z e) [
          | inl whole ↦
              let s = small_some high whole.0 z whole.2 in
              subst (λ x. ASigned high x d) s.0 (whole_some d whole.0 whole.1, s.1)
          | inr below ↦
              let a = bind_some (below_zero high) (option_and_then as_i64 (as_number d)) z below.1 in
              let b = bind_some as_i64 (as_number d) a.0 a.1 in
              let chain : option_and_then (below_zero high) (as_i64 b.0) ≡ Some z = ap (option_and_then (below_zero high)) b.2 ∙ a.2 in
              let none : as_u64 b.0 ≡ None = sym (ap (option_and_then as_u64) b.1) ∙ below.0 in
              let s = below_some high b.0 z chain none in
              signed_written high z d (as_number_some d b.0 b.1 ∙ ap number s.0) s.1
        ]

    there : (d : Data) (z : ℤ) → ASigned high z d → depth d ≤ deepest → signed_of high d ≡ Some z
    there d (pos n) h le = rw h.0 (rw (le-leb n high h.1) refl)
    there d (negsuc n) h le = rw h.0 (rw (le-leb n high h.1) refl)

pub size_exact : IsExact size_of AVectorSize
size_exact = record { sound = found; complete = there }
  where
    found : (d : Data) (s : VectorSize) → size_of d ≡ Some s → AVectorSize s d
    found d s e =
        let a = bind_some _ (whole_of d) s e in
        let d_is = whole_some d a.0 a.1 in
        elim (chosen (nat_eq a.0 2) _ _ _ a.2) [
          | inl b ↦ subst (λ x. AVectorSize x d) (same_Some Bi s b.1) (d_is ∙ ap (λ n. number (unsigned n)) (eqb-true a.0 2 b.0))
          | inr b ↦ elim (chosen (nat_eq a.0 3) _ _ _ b.1) [
            | inl c ↦ subst (λ x. AVectorSize x d) (same_Some Tri s c.1) (d_is ∙ ap (λ n. number (unsigned n)) (eqb-true a.0 3 c.0))
            | inr c ↦
                let g = guarded (nat_eq a.0 4) (Some Quad) s c.1 in
                subst (λ x. AVectorSize x d) (same_Some Quad s g.1) (d_is ∙ ap (λ n. number (unsigned n)) (eqb-true a.0 4 g.0))
          ]
        ]

    there : (d : Data) (s : VectorSize) → AVectorSize s d → depth d ≤ deepest → size_of d ≡ Some s
    there d Bi h le = rw h refl
    there d Tri h le = rw h refl
    there d Quad h le = rw h refl

pub side_exact : IsExact side_of ACooperativeSize
side_exact = record { sound = found; complete = there }
  where
    found : (d : Data) (s : CooperativeSize) → side_of d ≡ Some s → ACooperativeSize s d
    found d s e =
        let a = bind_some _ (whole_of d) s e in
        let d_is = whole_some d a.0 a.1 in
        elim (chosen (nat_eq a.0 8) _ _ _ a.2) [
          | inl b ↦ subst (λ x. ACooperativeSize x d) (same_Some Eight s b.1) (d_is ∙ ap (λ n. number (unsigned n)) (eqb-true a.0 8 b.0))
          | inr b ↦
              let g = guarded (nat_eq a.0 16) (Some Sixteen) s b.1 in
              subst (λ x. ACooperativeSize x d) (same_Some Sixteen s g.1) (d_is ∙ ap (λ n. number (unsigned n)) (eqb-true a.0 16 g.0))
        ]

    there : (d : Data) (s : CooperativeSize) → ACooperativeSize s d → depth d ≤ deepest → side_of d ≡ Some s
    there d Eight h le = rw h refl
    there d Sixteen h le = rw h refl

-- ---- bools, strings, words

pub bool_exact : IsExact as_bool ABool
bool_exact = record { sound = as_bool_some; complete = λ d b h le. rw h refl }

pub text_exact : IsExact as_str AText
text_exact = record { sound = as_str_some; complete = λ d w h le. rw h refl }

pub word_exact : {A : Type 0} (table : List (List ℕ × A)) → IsExact (word_in table) (AWord table)
word_exact {A} table = record { sound = found; complete = there }
  where
    found : (d : Data) (x : A) → word_in table d ≡ Some x → AWord table x d
    found null x e = cc
    found (boolean b) x e = cc
    found (number n) x e = cc
    found (string s) x e = e
    found (array xs) x e = cc
    found (object ms) x e = cc

    there : (d : Data) (x : A) → AWord table x d → depth d ≤ deepest → word_in table d ≡ Some x
    there null x h le = absurd h
    there (boolean b) x h le = absurd h
    there (number n) x h le = absurd h
    there (string s) x h le = h
    there (array xs) x h le = absurd h
    there (object ms) x h le = absurd h

-- ---- options, lists and sets

pub optional_exact : {A : Type 0} (f : Data → Option A) (P : A → Data → Type 0) → f null ≡ None → IsExact f P → IsExact (optional f) (Maybe P)
optional_exact {A} f P not_null exact = record { sound = found; complete = there }
  where
    found : (d : Data) (o : Option A) → optional f d ≡ Some o → Maybe P o d
    found d None e =
        elim (chosen (is_null d) _ _ _ e) [
          | inl none ↦ is_null_true d none.0
          | inr some ↦ let a = map_some Some (f d) None some.1 in let x = a.2 in cc
        ]
    found d (Some x) e =
        elim (chosen (is_null d) _ _ _ e) [
          | inl none ↦ let y = none.1 in cc
          | inr some ↦
              let a = map_some Some (f d) (Some x) some.1 in
              let x_is : a.0 ≡ x = (let y = a.2 in cc) in
              exact.sound d x (a.1 ∙ ap Some x_is)
        ]

    there : (d : Data) (o : Option A) → Maybe P o d → depth d ≤ deepest → optional f d ≡ Some o
    there d None h le = rw h refl
    there null (Some x) h le = let e = sym not_null ∙ exact.complete null x h le in cc
    there (boolean b) (Some x) h le = ap (option_map Some) (exact.complete (boolean b) x h le)
    there (number n) (Some x) h le = ap (option_map Some) (exact.complete (number n) x h le)
    there (string s) (Some x) h le = ap (option_map Some) (exact.complete (string s) x h le)
    there (array xs) (Some x) h le = ap (option_map Some) (exact.complete (array xs) x h le)
    there (object ms) (Some x) h le = ap (option_map Some) (exact.complete (object ms) x h le)
