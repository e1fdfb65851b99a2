-- The ids of the overrides before an index, and before the next index.
use Rattle.std.proofs.Common.{◌≡◌, ◌<◌, ◌↔◌, ◌⊎◌, inl, inr, ℕ, ◌+◌, List, Option, Some, None, Bool, true, false, slice_get, refl, sym, ap, subst, ◌∙◌, true≢false, arith, rules}
use Rattle.ir_items.specs.judged.GlobalPlain.{PlainOverride}
use Rattle.module_constants.specs.Ids.{AreIds, AreIdsOrMore, IsNotedIf, IsSeen}
use Rattle.module_constants.specs.declared.ids.OverrideIds.{OverrideIds}
use Rattle.spec_expressions.specs.judged.Overrides.{IsTaken}

pub below_or_same : (h k : ℕ) → h < k + 1 → (h < k) ⊎ (h ≡ k)
below_or_same h k lt = search rules

one : (os : List PlainOverride) (place : ℕ) (a b : PlainOverride) → slice_get os place ≡ Some a → slice_get os place ≡ Some b → a ≡ b
one os place a b e f = cc (e, f)

-- an id used before the next index is used before this one, or is the id of the override here
taken_more : (os : List PlainOverride) (place id : ℕ) (o : PlainOverride) → slice_get os place ≡ Some o → IsTaken os (place + 1) id → IsTaken os place id ⊎ (o.id ≡ Some id)
taken_more os place id o at taken = elim (below_or_same taken.earlier place taken.before) [
  | inl less ↦ inl (record { earlier = taken.earlier; before = less; override = taken.override; at = taken.at; has = taken.has })
  | inr same ↦
      let there : slice_get os place ≡ Some taken.override = ap (slice_get os) (sym same) ∙ taken.at in
      inr (ap (λ (x : PlainOverride). x.id) (one os place o taken.override at there) ∙ taken.has)
]

taken_still : (os : List PlainOverride) (place id : ℕ) → IsTaken os place id → IsTaken os (place + 1) id
taken_still os place id taken = record {
  earlier = taken.earlier;
  before = let lt = taken.before in omega (arith, lt);
  override = taken.override;
  at = taken.at;
  has = taken.has;
}

taken_here : (os : List PlainOverride) (place id : ℕ) (o : PlainOverride) → slice_get os place ≡ Some o → o.id ≡ Some id → IsTaken os (place + 1) id
taken_here os place id o at has = record { earlier = place; before = omega arith; override = o; at = at; has = has }

pub noted_ids : (os : List PlainOverride) (place : ℕ) (o : PlainOverride) (before after : OverrideIds) (id : Option ℕ) (own : Bool) → AreIds os place before → slice_get os place ≡ Some o → o.id ≡ id → IsNotedIf before after id own
    → AreIds os (place + 1) after
noted_ids os place o before after None own ids at is noted = record {
  each = λ q. (
    λ s. taken_still os place q ((ids.each q).0 ((noted.1 q).0 s)),
    λ taken. elim (taken_more os place q o at taken) [
      | inl earlier ↦ (noted.1 q).1 ((ids.each q).1 earlier)
      | inr here ↦ let none = sym is ∙ here in cc (none)
    ],
  );
}
noted_ids os place o before after (Some id) own ids at is noted = record {
  each = λ q. (
    λ s. elim ((noted.all q).0 s) [
      | inl earlier ↦ taken_still os place q ((ids.each q).0 earlier)
      | inr same ↦ taken_here os place q o at (is ∙ ap Some (sym same))
    ],
    λ taken. (noted.all q).1 (elim (taken_more os place q o at taken) [
      | inl earlier ↦ inl ((ids.each q).1 earlier)
      | inr here ↦ inr (let e = sym here ∙ is in cc (e))
    ]),
  );
}

-- an id that is not in the set is not that of an earlier override
pub own_is : (os : List PlainOverride) (place : ℕ) (before after : OverrideIds) (id : Option ℕ) (own : Bool) → AreIds os place before → IsNotedIf before after id own → own ≡ true → (q : ℕ) → id ≡ Some q → IsTaken os place q → ⊥
own_is os place before after None own ids noted fresh q e taken = cc (e)
own_is os place before after (Some id) own ids noted fresh q e taken =
    let same : id ≡ q = cc (e) in
    noted.fresh fresh ((ids.each id).1 (subst (IsTaken os place) (sym same) taken))

-- an id in the set is that of an earlier override
pub taken_is : (os : List PlainOverride) (place : ℕ) (before after : OverrideIds) (id : Option ℕ) (own : Bool) → AreIds os place before → IsNotedIf before after id own → own ≡ false → (q : ℕ) × (id ≡ Some q) × IsTaken os place q
taken_is os place before after None own ids noted none = absurd (true≢false (sym noted.0 ∙ none))
taken_is os place before after (Some id) own ids noted none = (id, refl, (ids.each id).0 (noted.repeated none))

pub none_before : (os : List PlainOverride) (ids : OverrideIds) → ((id : ℕ) → IsSeen ids id → ⊥) → AreIds os 0 ids
none_before os ids none = record { each = λ id. ((λ s. absurd (none id s)), (λ taken. let lt = taken.before in absurd (omega (arith, lt)))) }

-- with the override's id inserted
pub more_ids : (os : List PlainOverride) (place : ℕ) (ids : OverrideIds) → AreIds os (place + 1) ids → AreIdsOrMore os place ids
more_ids os place ids are = record {
  earlier = λ id taken. (are.each id).1 (taken_still os place id taken);
  only = λ id seen. (are.each id).0 seen;
}

-- with no id to insert
pub same_ids : (os : List PlainOverride) (place : ℕ) (before after : OverrideIds) → AreIds os place before → ((id : ℕ) → IsSeen after id ↔ IsSeen before id) → AreIdsOrMore os place after
same_ids os place before after are same = record {
  earlier = λ id taken. (same id).1 ((are.each id).1 taken);
  only = λ id seen. taken_still os place id ((are.each id).0 ((same id).0 seen));
}
