-- The bits of the id set.
use Rattle.std.proofs.Common.{w64, zero, suc, [], ◌∷◌, ◌++◌, refl, ◌≡◌, ◌≢◌, ◌<◌, ◌⊎◌, inl, inr, ◌↔◌, ℕ, ◌/◌, ◌%◌, ◌*◌, ◌^◌, List, length, get_or, slice_set, bit_or, true, false, sym, ap, subst, ◌∙◌, true≢false, arith}
use Rattle.std.specs.Int.{bit_at}
use Rattle.std.proofs.lemmas.Bool.{cases_lt}
use Rattle.std.proofs.lemmas.Grind.{get_or_default_zero}
use Rattle.std.proofs.lemmas.List.{get_or-set_same, get_or-set_other}
use Rattle.std.proofs.lemmas.Nat.Bits.{bit_at_set_same, bit_at_set_other}
use Rattle.module_constants.specs.Ids.{IsNoted}
use Rattle.module_constants.specs.declared.ids.OverrideIds.{OverrideIds}

abbrev IsAt : (words : List ℕ) → (id : ℕ) → Type 0
IsAt words id = bit_at (get_or words (id / 64) 0) (id % 64) ≡ 1

-- a word with one more bit set
abbrev added_to : (word bit : ℕ) → ℕ
added_to word bit = bit_or word (1 * 2 ^ bit % 2 ^ 64)

in_word : (word id q : ℕ) → q / 64 ≡ id / 64 → (bit_at (added_to word (id % 64)) (q % 64) ≡ 1) ↔ ((bit_at word (q % 64) ≡ 1) ⊎ (q ≡ id))
in_word word id q same =
    let within : id % 64 < 64 = omega arith in
    let other = λ (ne : q % 64 ≢ id % 64). (let e : bit_at (added_to word (id % 64)) (q % 64) ≡ bit_at word (q % 64) = bit_at_set_other w64 word (id % 64) within (q % 64) ne in
    let r : (bit_at (added_to word (id % 64)) (q % 64) ≡ 1) ↔ ((bit_at word (q % 64) ≡ 1) ⊎ (q ≡ id)) = (
      (λ h. inl (sym e ∙ h)),
      (λ h. elim h [ inl was ↦ e ∙ was | inr is ↦ absurd (ne (ap (λ n. n % 64) is)) ]),
    ) in r) in
    elim (cases_lt (q % 64) (id % 64)) [
      | inl lt ↦ other (λ e. omega (arith, lt, e))
      | inr ge ↦ elim (cases_lt (id % 64) (q % 64)) [
        | inl gt ↦ other (λ e. omega (arith, gt, e))
        | inr le ↦
            let bit : q % 64 ≡ id % 64 = omega (arith, ge, le) in
            let is : q ≡ id = omega (arith, same, bit) in (
              (λ h. inr is),
              (λ h. subst (λ k. bit_at (added_to word (id % 64)) k ≡ 1) (sym bit) (bit_at_set_same w64 word (id % 64) within)),
            )
      ]
    ]

in_words : (words : List ℕ) (id q : ℕ) → id / 64 < length words → IsAt (slice_set words (id / 64) (added_to (get_or words (id / 64) 0) (id % 64))) q ↔ (IsAt words q ⊎ (q ≡ id))
in_words words id q lt =
    let next = added_to (get_or words (id / 64) 0) (id % 64) in
    let other = λ (ne : q / 64 ≢ id / 64). (let e : get_or (slice_set words (id / 64) next) (q / 64) 0 ≡ get_or words (q / 64) 0 = get_or-set_other words (id / 64) (q / 64) next 0 ne in
    let r : IsAt (slice_set words (id / 64) next) q ↔ (IsAt words q ⊎ (q ≡ id)) = (
      (λ h. inl (subst (λ w. bit_at w (q % 64) ≡ 1) e h)),
      (λ h. elim h [ inl was ↦ subst (λ w. bit_at w (q % 64) ≡ 1) (sym e) was | inr is ↦ absurd (ne (ap (λ n. n / 64) is)) ]),
    ) in r) in
    elim (cases_lt (q / 64) (id / 64)) [
      | inl less ↦ other (λ e. omega (arith, less, e))
      | inr ge ↦ elim (cases_lt (id / 64) (q / 64)) [
        | inl more ↦ other (λ e. omega (arith, more, e))
        | inr le ↦
            let same : q / 64 ≡ id / 64 = omega (arith, ge, le) in
            let here : get_or (slice_set words (id / 64) next) (q / 64) 0 ≡ next = subst (λ k. get_or (slice_set words (id / 64) next) k 0 ≡ next) (sym same) (get_or-set_same words (id / 64) next 0 lt) in
            let before : get_or words (id / 64) 0 ≡ get_or words (q / 64) 0 = ap (λ k. get_or words k 0) (sym same) in
            let law = in_word (get_or words (id / 64) 0) id q same in (
              (λ h. elim (law.0 (subst (λ w. bit_at w (q % 64) ≡ 1) here h)) [ inl was ↦ inl (subst (λ w. bit_at w (q % 64) ≡ 1) before was) | inr is ↦ inr is ]),
              (λ h. subst (λ w. bit_at w (q % 64) ≡ 1) (sym here) (law.1 (elim h [ inl was ↦ inl (subst (λ w. bit_at w (q % 64) ≡ 1) (sym before) was) | inr is ↦ inr is ]))),
            )
      ]
    ]

-- an empty word appended
pub read_behind : (words : List ℕ) (k : ℕ) → get_or (words ++ 0 ∷ []) k 0 ≡ get_or words k 0
read_behind [] zero = refl
read_behind [] (suc k) = refl
read_behind (w ∷ ws) zero = refl
read_behind (w ∷ ws) (suc k) = read_behind ws k

kept_at : (v w : List ℕ) → ((k : ℕ) → get_or w k 0 ≡ get_or v k 0) → (q : ℕ) → IsAt v q ↔ IsAt w q
kept_at v w same q = (
  (λ e. subst (λ x. bit_at x (q % 64) ≡ 1) (sym (same (q / 64))) e),
  (λ e. subst (λ x. bit_at x (q % 64) ≡ 1) (same (q / 64)) e),
)

-- an id that is already in the set
pub noted_already : (before after : OverrideIds) (word id : ℕ) → ((k : ℕ) → get_or after.words.items k 0 ≡ get_or before.words.items k 0)
    → word ≡ get_or after.words.items (id / 64) 0 → bit_at word (id % 64) ≡ 1 → IsNoted before after id false
noted_already before after word id same is has =
    let there : IsAt after.words.items id = subst (λ x. bit_at x (id % 64) ≡ 1) is has in
    let kept = kept_at before.words.items after.words.items same in
    record {
      fresh = λ e. absurd (true≢false (sym e));
      repeated = λ e. (kept id).1 there;
      all = λ q. ((λ s. inl ((kept q).1 s)), (λ h. elim h [ inl was ↦ (kept q).0 was | inr own ↦ subst (IsAt after.words.items) (sym own) there ]));
    }

-- an id that is new
pub noted_now : (before after : OverrideIds) (words : List ℕ) (word place id : ℕ) → place ≡ id / 64 → ((k : ℕ) → get_or words k 0 ≡ get_or before.words.items k 0) → place < length words
    → word ≡ get_or words place word → (bit_at word (id % 64) ≡ 1 → ⊥) → after.words.items ≡ slice_set words place (added_to word (id % 64)) → IsNoted before after id true
noted_now before after words word place id here same lt is not made =
    let read : word ≡ get_or words (id / 64) 0 = is ∙ (get_or_default_zero words place word lt ∙ ap (λ k. get_or words k 0) here) in
    let within : id / 64 < length words = subst (λ k. k < length words) here lt in
    let kept = kept_at before.words.items words same in
    let all : after.words.items ≡ slice_set words (id / 64) (added_to (get_or words (id / 64) 0) (id % 64)) =
    made ∙ (ap (λ k. slice_set words k (added_to word (id % 64))) here ∙ ap (λ w. slice_set words (id / 64) (added_to w (id % 64))) read) in
    let law = in_words words id in
    record {
      fresh = λ e seen. not (subst (λ x. bit_at x (id % 64) ≡ 1) (sym read) ((kept id).0 seen));
      repeated = λ e. absurd (true≢false e);
      all = λ q. (
        (λ s. elim ((law q within).0 (subst (λ w. IsAt w q) all s)) [ inl was ↦ inl ((kept q).1 was) | inr own ↦ inr own ]),
        (λ h. subst (λ w. IsAt w q) (sym all) ((law q within).1 (elim h [ inl was ↦ inl ((kept q).0 was) | inr own ↦ inr own ]))),
      );
    }
