-- The arguments of a call, one by one.
use Rattle.std.proofs.Common.{◌≡◌, ℕ, zero, suc, ◌+◌, ◌<◌, ◌≤◌, min, Bool, true, false, List, [], ◌∷◌, ◌++◌, length, drop, get_or, Option, Some, slice_get, refl, sym, ap, ◌∙◌, arith}
use Rattle.std.proofs.lemmas.List.{append-nil, append_assoc}
use Rattle.spec_expressions.specs.declared.sampling.GlobalOrArgument.{GlobalOrArgument}
use Rattle.spec_expressions.specs.found.Arguments.{argument_means}
use Rattle.typing_summaries.specs.Parts.{part_if, parts_of}

module _ (meaning : ℕ → Option GlobalOrArgument) where
  at_place : (marks : List Bool) (arguments : List ℕ) (i : ℕ) → i < length marks → i < length arguments
      → parts_of meaning (drop i marks) (drop i arguments) ≡ part_if (get_or marks i false) (meaning (get_or arguments i 0)) ∷ parts_of meaning (drop (suc i) marks) (drop (suc i) arguments)
  at_place [] arguments i lm la = absurd (omega (arith, lm))
  at_place (m ∷ marks) [] i lm la = absurd (omega (arith, la))
  at_place (m ∷ marks) (a ∷ arguments) zero lm la = refl
  at_place (m ∷ marks) (a ∷ arguments) (suc i) lm la = at_place marks arguments i (omega (arith, lm)) (omega (arith, la))

  none_after : (ms : List Bool) → parts_of meaning ms [] ≡ []
  none_after [] = refl
  none_after (m ∷ ms) = refl

  nothing_left : (marks : List Bool) (arguments : List ℕ) (i : ℕ) → min (length marks) (length arguments) ≤ i → parts_of meaning (drop i marks) (drop i arguments) ≡ []
  nothing_left [] arguments zero le = refl
  nothing_left [] arguments (suc i) le = refl
  nothing_left (m ∷ marks) [] zero le = refl
  nothing_left (m ∷ marks) [] (suc i) le = none_after (drop i marks)
  nothing_left (m ∷ marks) (a ∷ arguments) zero le = absurd (omega (arith, le))
  nothing_left (m ∷ marks) (a ∷ arguments) (suc i) le = nothing_left marks arguments i (omega (arith, le))

  -- the same parts are passed, so marked arguments have the same denotations
  pub same_means : (marks : List Bool) (xs ys : List ℕ) (n : ℕ) → parts_of meaning marks xs ≡ parts_of meaning marks ys → slice_get marks n ≡ Some true → argument_means meaning (slice_get xs n) ≡ argument_means meaning (slice_get ys n)
  same_means [] xs ys n e at = absurd (cc (at))
  same_means (m ∷ marks) [] [] n e at = refl
  same_means (m ∷ marks) [] (y ∷ ys) n e at = absurd (cc (e))
  same_means (m ∷ marks) (x ∷ xs) [] n e at = absurd (cc (e))
  same_means (true ∷ marks) (x ∷ xs) (y ∷ ys) zero e at = cc (e)
  same_means (false ∷ marks) (x ∷ xs) (y ∷ ys) zero e at = absurd (cc (at))
  same_means (m ∷ marks) (x ∷ xs) (y ∷ ys) (suc n) e at = same_means marks xs ys n (cc (e)) at

  -- the argument passed at a marked index has the denotation of the part
  pub part_means : (marks : List Bool) (xs : List ℕ) (n : ℕ) (part : GlobalOrArgument) → slice_get marks n ≡ Some true → slice_get (parts_of meaning marks xs) n ≡ Some (Some part) → argument_means meaning (slice_get xs n) ≡ Some part
  part_means [] xs n part at e = absurd (cc (at))
  part_means (m ∷ marks) [] n part at e = absurd (cc (e))
  part_means (true ∷ marks) (x ∷ xs) zero part at e = cc (e)
  part_means (false ∷ marks) (x ∷ xs) zero part at e = absurd (cc (at))
  part_means (m ∷ marks) (x ∷ xs) (suc n) part at e = part_means marks xs n part at e

-- one more part after those found so far
pub one_more : (meaning : ℕ → Option GlobalOrArgument) (parts : List (Option GlobalOrArgument)) (marks : List Bool) (arguments : List ℕ) (i : ℕ) (part : Option GlobalOrArgument) → i < length marks → i < length arguments
    → part ≡ part_if (get_or marks i false) (meaning (get_or arguments i 0))
    → (parts ++ part ∷ []) ++ parts_of meaning (drop (i + 1) marks) (drop (i + 1) arguments) ≡ parts ++ parts_of meaning (drop i marks) (drop i arguments)
one_more meaning parts marks arguments i part lm la is =
    let next : i + 1 ≡ suc i = omega arith in
    append_assoc parts (part ∷ []) (parts_of meaning (drop (i + 1) marks) (drop (i + 1) arguments))
    ∙ ap (λ z. parts ++ z) ((λ j. is j ∷ parts_of meaning (drop (next j) marks) (drop (next j) arguments)) ∙ sym (at_place meaning marks arguments i lm la))

pub no_more : (meaning : ℕ → Option GlobalOrArgument) (parts : List (Option GlobalOrArgument)) (marks : List Bool) (arguments : List ℕ) (i : ℕ) → min (length marks) (length arguments) ≤ i
    → parts ++ parts_of meaning (drop i marks) (drop i arguments) ≡ parts
no_more meaning parts marks arguments i le = ap (λ z. parts ++ z) (nothing_left meaning marks arguments i le) ∙ append-nil parts
