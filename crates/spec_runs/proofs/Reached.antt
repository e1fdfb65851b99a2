-- An expression's operands at any depth are computed exactly.
use Rattle.std.proofs.Common.{◌≡◌, ℕ, zero, suc, ◌<◌, List, [], ◌∷◌, ⊎_elim, Option, Some, None, Contains, slice_get, refl, sym, subst, arith}
use Rattle.std.specs.List.{flat_map}
use Rattle.std.proofs.lemmas.List.Elements.{All-contains, Contains-append_left, Contains-append_right, Contains-append_cases, Contains-push}
use Rattle.ir_types.specs.judged.ExpressionPlain.{PlainExpression}
use Rattle.spec_expressions.specs.judged.FunctionHandles.{OperandsPrecede}
use Rattle.spec_expressions.specs.judged.ExpressionNames.{expression_operands}
use Rattle.spec_statements.proofs.ScopeLaws.{none_held}
use Rattle.spec_runs.specs.judged.Reached.{IsReachedFrom, itself, by_operand, operands_at, reached_within, AllAreReached}

one_is : (y x : ℕ) → Contains (y ∷ []) x → x ≡ y
one_is y x (zero, lt, is) = sym is
one_is y x (suc k, lt, is) = absurd (omega (arith, lt))

-- an element of one result is in the concatenation
held_mapped : (f : ℕ → List ℕ) (xs : List ℕ) (x y : ℕ) → Contains xs x → Contains (f x) y → Contains (flat_map f xs) y
held_mapped f [] x y held h = none_held x held
held_mapped f (z ∷ xs) x y held h =
    ⊎_elim (λ own. Contains-append_left (f z) (flat_map f xs) y (subst (λ w. Contains (f w) y) (one_is z x own) h)) (λ more. Contains-append_right (f z) (flat_map f xs) y (held_mapped f xs x y more h))
    (Contains-append_cases (z ∷ []) xs x held)

mapped_held : (f : ℕ → List ℕ) (xs : List ℕ) (y : ℕ) → Contains (flat_map f xs) y → (x : ℕ) × Contains xs x × Contains (f x) y
mapped_held f [] y held = none_held y held
mapped_held f (z ∷ xs) y held =
    ⊎_elim (λ own. (z, Contains-append_left (z ∷ []) xs z (Contains-push [] z), own)) (λ more. let r = mapped_held f xs y more in (r.0, Contains-append_right (z ∷ []) xs r.0 r.1, r.2))
    (Contains-append_cases (f z) (flat_map f xs) y held)

module _ (expressions : List PlainExpression) where
  is_found : OperandsPrecede expressions → (n : ℕ) {e o : ℕ} → IsReachedFrom expressions e o → e < n → Contains (reached_within n expressions e) o
  is_found precede zero h lt = absurd (omega (arith, lt))
  is_found precede (suc n) (itself {e = e}) lt = Contains-append_left (e ∷ []) (flat_map (reached_within n expressions) (operands_at (slice_get expressions e))) e (Contains-push [] e)
  is_found precede (suc n) (by_operand {e = e} {o = o} {r = r} x at held h) lt =
      let below : o < e = All-contains (λ y. y < e) (expression_operands x) o (precede e x at) held in
      let small : o < n = omega (arith, below, lt) in
      Contains-append_right (e ∷ []) (flat_map (reached_within n expressions) (operands_at (slice_get expressions e))) r
      (held_mapped (reached_within n expressions) (operands_at (slice_get expressions e)) o r (subst (λ z. Contains (operands_at z) o) (sym at) held) (is_found precede n h small))

  by_this : (e o r : ℕ) (z : Option PlainExpression) → slice_get expressions e ≡ z → Contains (operands_at z) o → IsReachedFrom expressions o r → IsReachedFrom expressions e r
  by_this e o r (Some x) at held h = by_operand x at held h
  by_this e o r None at held h = none_held o held

  is_reached : (n e r : ℕ) → Contains (reached_within n expressions e) r → IsReachedFrom expressions e r
  is_reached zero e r held = none_held r held
  is_reached (suc n) e r held =
      ⊎_elim (λ own. subst (IsReachedFrom expressions e) (sym (one_is e r own)) itself)
      (λ more. let x = mapped_held (reached_within n expressions) (operands_at (slice_get expressions e)) r more in by_this e x.0 r (slice_get expressions e) refl x.1 (is_reached n x.0 r x.2))
      (Contains-append_cases (e ∷ []) (flat_map (reached_within n expressions) (operands_at (slice_get expressions e))) r held)

pub all_are_reached : AllAreReached
all_are_reached f precede e o = (λ held. is_reached f.expressions (suc e) e o held, λ h. is_found f.expressions precede (suc e) h (omega arith))
