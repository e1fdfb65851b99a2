-- Stored spans are equal exactly if all padded spans are.
use Rattle.std.proofs.Common.{◌≡◌, ℕ, zero, suc, ◌≤◌, ◌==◌, ◌&&◌, Bool, true, false, IsTrue, if◌then◌else◌, List, [], ◌∷◌, length, refl, sym, ap, ◌∙◌, arith}
use Rattle.std.specs.Prelude.{Decides}
use Rattle.std.specs.Cmp.Lexicographic.{pointwise_decides}
use Rattle.std.proofs.lemmas.Bool.{and_parts, and_from, eqb-true, eq-eqb}
use Rattle.ir_types.specs.IrArena.{Span, undefined_span, span_from, is_defined_span, same_span}
use Rattle.ir_blocks.specs.found.Padded.{first_kept, padded, before_defined, up_to_defined, same_kept, KeptEquality}
use Rattle.ir_blocks.specs.found.Spans.{tail_of}
use Rattle.ir_blocks.proofs.PaddedLemmas.{undefined_is}

same_span_decides : (x y : Span) → Decides (same_span x y) (x ≡ y)
same_span_decides x y = (is_same, λ e. and_from (x.start == y.start) (x.end == y.end) (eq-eqb x.start y.start (ap (λ (s : Span). s.start) e)) (eq-eqb x.end y.end (ap (λ (s : Span). s.end) e)))
  where
    is_same : same_span x y ≡ true → x ≡ y
    is_same e =
        let both = and_parts (x.start == y.start) (x.end == y.end) e in
        let first = eqb-true x.start y.start both.0 in
        let second = eqb-true x.end y.end both.1 in
        λ i. span_from (first i) (second i)

same_kept_decides : (xs ys : List Span) → Decides (same_kept xs ys) (up_to_defined xs ≡ up_to_defined ys)
same_kept_decides xs ys = pointwise_decides same_span_decides (up_to_defined xs) (up_to_defined ys)

-- spans after the last defined one add nothing
before_first : (x : Span) (kept : List Span) → first_kept (before_defined x kept) ≡ x
before_first x (y ∷ kept) = refl
before_first x [] = by_test (is_defined_span x) refl
  where
    by_test : (d : Bool) → is_defined_span x ≡ d → first_kept (if d then x ∷ [] else []) ≡ x
    by_test true e = refl
    by_test false e = sym (undefined_is x e)

before_tail : (x : Span) (kept : List Span) → tail_of (before_defined x kept) ≡ kept
before_tail x (y ∷ kept) = refl
before_tail x [] = by_test (is_defined_span x)
  where
    by_test : (d : Bool) → tail_of (if d then x ∷ [] else []) ≡ []
    by_test true = refl
    by_test false = refl

padded_known : (n : ℕ) (kept : List Span) → padded n (up_to_defined kept) ≡ padded n kept
padded_known zero kept = refl
padded_known (suc n) [] = refl
padded_known (suc n) (x ∷ kept) = λ i. before_first x (up_to_defined kept) i ∷ (ap (padded n) (before_tail x (up_to_defined kept)) ∙ padded_known n kept) i

undefined_known : (n : ℕ) → up_to_defined (padded n []) ≡ []
undefined_known zero = refl
undefined_known (suc n) = ap (before_defined undefined_span) (undefined_known n)

known_padded : (n : ℕ) (kept : List Span) → length kept ≤ n → up_to_defined (padded n kept) ≡ up_to_defined kept
known_padded n [] p = undefined_known n
known_padded zero (x ∷ kept) p = absurd (omega (arith, p))
known_padded (suc n) (x ∷ kept) p = ap (before_defined x) (known_padded n kept (omega (arith, p)))

pub kept_equality : KeptEquality
kept_equality n xs ys =
    let decides = same_kept_decides xs ys in (
      λ e. sym (padded_known n xs) ∙ (ap (padded n) (decides.0 e) ∙ padded_known n ys),
      λ p q e. decides.1 (sym (known_padded n xs p) ∙ (ap up_to_defined e ∙ known_padded n ys q)),
    )
