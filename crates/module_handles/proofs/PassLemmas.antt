-- Items of a list that are checked in order.
use Rattle.std.proofs.Common.{◌≡◌, ◌⊎◌, inl, inr, rules, ℕ, ◌+◌, ◌<◌, ◌≤◌, List, Option, Some, None, sym, subst, slice_get, length, arith}
use Rattle.std.proofs.lemmas.Option.{slice_get_within}
use Rattle.std.specs.Option.{MatchOption}
use Rattle.typing_references.specs.declared.fault.HandleFault.{HandleFault}
use Rattle.module_handles.specs.Lists.{AllPass, SomeFails}

-- each item before this index is valid
abbrev pub PassBelow : {T : Type 0} → (ℕ → T → Type 0) → List T → ℕ → Type 0
PassBelow {T = T} passes items end = (i : ℕ) (x : T) → i < end → slice_get items i ≡ Some x → passes i x

pub below_or_same : (i end : ℕ) → i < end + 1 → (i < end) ⊎ (i ≡ end)
below_or_same i end lt = search rules

module _ {T : Type 0} (passes : ℕ → T → Type 0) (fails : ℕ → T → HandleFault → Type 0) where
  pub none_below : (items : List T) → PassBelow passes items 0
  none_below items i x lt at = absurd (let no : i < 0 = lt in omega (arith, no))

  pub one_more : (items : List T) (end : ℕ) (x : T) → PassBelow passes items end → slice_get items end ≡ Some x → passes end x → PassBelow passes items (end + 1)
  one_more items end x before at passed i y lt there = elim (below_or_same i end lt) [
    | inl less ↦ before i y less there
    | inr same ↦ (let is : x ≡ y = (let a = at in let b = there in let c = same in cc) in subst (λ z. passes i z) is (subst (λ k. passes k x) (sym same) passed))
  ]

  pub all_below : (items : List T) (end : ℕ) → length items ≤ end → PassBelow passes items end → AllPass passes items
  all_below items end le before i x at = before i x (let within = slice_get_within items i x at in omega (arith, within, le)) at

  pub fails_at : (items : List T) (i : ℕ) (x : T) (h : HandleFault) → slice_get items i ≡ Some x → fails i x h → SomeFails fails items h
  fails_at items i x h at failed = (i, x, at, failed)

-- from a result to a stronger one
pub weaker : {A P R : Type 0} {Q S : A → Type 0} (o : Option A) → (P → R) → ((x : A) → Q x → S x) → MatchOption o P Q → MatchOption o R S
weaker None p q told = p told
weaker (Some x) p q told = q x told
