-- The varying at a place, and those before it.
use Rattle.std.proofs.Common.{◌≡◌, ◌⊎◌, inl, inr, ℕ, ◌+◌, ◌<◌, ◌≤◌, List, Option, Some, None, MatchOption, length, sym, ap, subst, ◌∙◌, slice_get, arith, rules}
use Rattle.std.proofs.lemmas.Option.{same_Some, slice_get_within}
use Rattle.spec_interface.specs.judged.Contexts.{VaryingContext}
use Rattle.spec_interface.specs.judged.Varyings.{VaryingsApart, ShowsAt, VaryingsOK, built_in_of, location_of}
use Rattle.spec_interface.specs.declared.varyings.Bound.{Bound}
use Rattle.spec_interface.specs.declared.varyings.Varying.{Varying}
use Rattle.function_varyings.specs.Places.{IsFine, IsNew}

pub below_or_same : (i end : ℕ) → i < end + 1 → (i < end) ⊎ (i ≡ end)
below_or_same i end lt = search rules

some_none : {A : Type 0} (x : A) → Some x ≡ None → ⊥
some_none x e = cc

-- what is said where nothing is found
pub of_none : {A : Type 0} (o : Option A) (P : Type 0) (Q : A → Type 0) → o ≡ None → MatchOption o P Q → P
of_none None P Q is h = h
of_none (Some x) P Q is h = absurd (some_none x is)

-- ---- what is shown

module _ {A : Type 0} (shown : Bound → Option A) (vs : List Varying) where
  -- what a varying shows is what stands at its place
  pub shows_here : (place : ℕ) (v : Varying) (x : A) → slice_get vs place ≡ Some v → ShowsAt shown vs place x → shown v.bound ≡ Some x
  shows_here place v x at shows = let same : shows.0 ≡ v = same_Some _ _ (sym shows.1 ∙ at) in ap (λ (w : Varying). shown w.bound) (sym same) ∙ shows.2

  -- all places are new, so no two show the same
  pub new_apart : ((place : ℕ) → place < length vs → IsNew shown vs place) → VaryingsApart shown vs
  new_apart new first second x lt at_first at_second =
      new second (slice_get_within vs second (at_second.0) (at_second.1)) first x lt at_first at_second

-- ---- all places

module _ (c : VaryingContext) (vs : List Varying) where
  pub one_more : (place : ℕ) → ((k : ℕ) → k < place → IsFine c vs k) → IsFine c vs place → (k : ℕ) → k < place + 1 → IsFine c vs k
  one_more place before fine k lt = elim (below_or_same k place lt) [
    | inl less ↦ before k less
    | inr same ↦ subst (IsFine c vs) (sym same) fine
  ]

  pub all_fine : (end : ℕ) → length vs ≤ end → ((k : ℕ) → k < end → IsFine c vs k) → VaryingsOK c vs
  all_fine end past fine = record {
    each = λ place v at. (fine place (let within = slice_get_within vs place v at in omega (arith, within, past))).own v at;
    once = new_apart built_in_of vs (λ place within. (fine place (omega (arith, within, past))).once);
    apart = λ asked. new_apart location_of vs (λ place within. (fine place (omega (arith, within, past))).apart asked);
  }
