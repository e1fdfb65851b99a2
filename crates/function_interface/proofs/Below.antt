-- Items of a list that meet a rule one after another.
use Rattle.std.proofs.Common.{◌≡◌, ◌⊎◌, inl, inr, rules, ℕ, ◌+◌, ◌<◌, ◌≤◌, List, Some, map, option_map, get_or, refl, ap, subst, ◌∙◌, slice_get, length, arith}
use Rattle.std.proofs.lemmas.Option.{slice_get_within, slice_get_read, slice_get-map}
use Rattle.std.proofs.lemmas.List.{length-map}
use Rattle.function_interface.specs.Items.{EachOK, EachBelow}

pub below_or_same : (i end : ℕ) → i < end + 1 → (i < end) ⊎ (i ≡ end)
below_or_same i end lt = search rules

module _ {A : Type 0} (Rule : A → Type 0) where
  pub none_below : (items : List A) → EachBelow Rule items 0
  none_below items = record { each = λ i x lt at. absurd (omega (arith, lt)) }

  pub one_more : (items : List A) (end : ℕ) (x : A) → EachBelow Rule items end → slice_get items end ≡ Some x → Rule x → EachBelow Rule items (end + 1)
  one_more items end x before at holds = record {
    each = λ i y lt there. elim (below_or_same i end lt) [
      | inl less ↦ before.each i y less there
      | inr same ↦ (let is : x ≡ y = (let a = at in let b = there in let c = same in cc) in subst Rule is holds)
    ];
  }

  pub all_below : (items : List A) (end : ℕ) → length items ≤ end → EachBelow Rule items end → EachOK Rule items
  all_below items end le before i x at = before.each i x (let within = slice_get_within items i x at in omega (arith, within, le)) at

-- what stands at a place of a list, seen through a view
pub viewed_at : {A B : Type 0} (view : A → B) (items slice : List A) (i : ℕ) (x : A) → slice ≡ items → i < length slice → x ≡ get_or slice i x → slice_get (map view items) i ≡ Some (view x)
viewed_at view items slice i x is lt here =
    slice_get-map view items i ∙ ap (option_map view) (subst (λ xs. slice_get xs i ≡ Some x) is (slice_get_read slice (length slice) i x refl lt here))

pub as_many_viewed : {A B : Type 0} (view : A → B) (items : List A) (end : ℕ) → length items ≤ end → length (map view items) ≤ end
as_many_viewed view items end le = let same = length-map items view in omega (arith, le, same)
