-- The result of a search of a list.
use Rattle.std.proofs.Common.{◌≡◌, ◌≤◌, ℕ, Bool, true, false, ◌||◌, ◌<◌, zero, suc, List, [], ◌∷◌, length, Some, None, arith, refl, sym, ap, subst, map, true≢false, ◌∙◌, nat_lt}
use Rattle.std.specs.Prelude.{position, IfSome, Option}
use Rattle.std.specs.List.{list_any, position_or_len, AllByRecursion}
use Rattle.std.proofs.lemmas.Map.Keys.{IsDistinct-head, IsDistinct-tail}
use Rattle.std.proofs.lemmas.Bool.{cond_below, cond_above}
use Rattle.std.specs.Cmp.{IsEquivalence}
use Rattle.std.proofs.lemmas.Grind.{common_steps}

module _ {X : Type 0} (p : X → Bool) where
  -- no element passes exactly if the index found is the length
  pub none_passes : (xs : List X) → list_any p xs ≡ false → position_or_len p xs ≡ length xs
  none_passes [] e = refl
  none_passes (x ∷ xs) e =
      elim (p x) as (λ b. p x ≡ b → position_or_len p (x ∷ xs) ≡ length (x ∷ xs)) [
        | true ↦ λ q. absurd (grind (arith, common_steps))
        | false ↦ λ q. let r : list_any p xs ≡ false = grind (arith, common_steps) in grind (arith, common_steps, none_passes xs r)
      ] refl

  pub below_where_passes : (xs : List X) → nat_lt (position_or_len p xs) (length xs) ≡ list_any p xs
  below_where_passes [] = refl
  below_where_passes (x ∷ xs) =
      elim (p x) as (λ b. p x ≡ b → nat_lt (position_or_len p (x ∷ xs)) (length (x ∷ xs)) ≡ list_any p (x ∷ xs)) [
        | true ↦ λ q. grind (arith, common_steps)
        | false ↦ λ q. grind (arith, common_steps, below_where_passes xs)
      ] refl

  pub passes_at : (xs : List X) (i : ℕ) → position p xs ≡ Some i → (list_any p xs ≡ true) × (position_or_len p xs ≡ i)
  passes_at xs i e =
      elim (list_any p xs) as (λ b. list_any p xs ≡ b → (list_any p xs ≡ true) × (position_or_len p xs ≡ i)) [
        | true ↦ λ q. let l = below_where_passes xs ∙ q in (q, grind (arith, common_steps))
        | false ↦ λ q. let l = below_where_passes xs ∙ q in absurd (grind (arith, common_steps))
      ] refl

  pub passes_nowhere : (xs : List X) → position p xs ≡ None → list_any p xs ≡ false
  passes_nowhere xs e =
      elim (list_any p xs) as (λ b. list_any p xs ≡ b → list_any p xs ≡ false) [
        | true ↦ λ q. let l = below_where_passes xs ∙ q in absurd (grind (arith, common_steps))
        | false ↦ λ q. q
      ] refl

-- equality of the first components is an equivalence of pairs
pub first_equiv : {T S : Type 0} {eq : T → T → Bool} → IsEquivalence eq → IsEquivalence {K = T × S} (λ d e. eq d.0 e.0)
first_equiv l = record { refl = λ x. l.refl x.0; symm = λ x y. l.symm x.0 y.0; congr = λ x y z. l.congr x.0 y.0 z.0 }
