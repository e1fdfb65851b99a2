-- Bindings that were seen, with one more.
use Rattle.std.proofs.Common.{◌≡◌, ◌⊎◌, inl, inr, ℕ, Bool, true, false, cond, true≢false, refl, sym, ap, subst, ◌∙◌}
use Rattle.std.specs.Prelude.{◌↔◌, IsTrue}
use Rattle.std.specs.BTreeSet.{BTreeSet, contains}
use Rattle.std.specs.Ordering.{is_eq, nat_cmp}
use Rattle.std.specs.declared.cmp.Ordering.{Ordering}
use Rattle.std.specs.declared.cmp.Ordering.TheVariants.{Less, Equal, Greater}
use Rattle.std.proofs.lemmas.Map.Lookups.{exact_pairs, exact_unsigned}
use Rattle.function_entry_checks.specs.Bindings.{IsSeen, pair_cmp}
use Rattle.ir_kinds.specs.declared.bindings.ResourceBinding.{ResourceBinding}

equal_by : (o : Ordering) → is_eq o ≡ true → o ≡ Equal
equal_by Less e = absurd (true≢false (sym e))
equal_by Equal e = refl
equal_by Greater e = absurd (true≢false (sym e))

abbrev pair_of : ResourceBinding → ℕ × ℕ
pair_of b = (b.group, b.binding)

same_binding : (b d : ResourceBinding) → pair_of d ≡ pair_of b → b ≡ d
same_binding b d e = λ i. record { group = (ap (λ (p : ℕ × ℕ). p.0) (sym e)) i; binding = (ap (λ (p : ℕ × ℕ). p.1) (sym e)) i }

same_by : (b d : ResourceBinding) → is_eq (pair_cmp (pair_of d) (pair_of b)) ≡ true → b ≡ d
same_by b d e = same_binding b d (exact_pairs nat_cmp nat_cmp exact_unsigned exact_unsigned (pair_of d) (pair_of b) (equal_by (pair_cmp (pair_of d) (pair_of b)) e))

module _ (b d : ResourceBinding) (old new : Bool) where
  added_from : (is : Bool) → is_eq (pair_cmp (pair_of d) (pair_of b)) ≡ is → new ≡ cond is true old → new ≡ true → (old ≡ true) ⊎ (b ≡ d)
  added_from true e told seen = inr (same_by b d e)
  added_from false e told seen = inl (sym told ∙ seen)

  added_kept : (is : Bool) → new ≡ cond is true old → old ≡ true → new ≡ true
  added_kept true told seen = told
  added_kept false told seen = told ∙ seen

pub seen_added : (d : ResourceBinding) (old new : BTreeSet (ℕ × ℕ))
    → ((q : ℕ × ℕ) → contains pair_cmp new q ≡ cond (is_eq (pair_cmp (pair_of d) q)) true (contains pair_cmp old q))
    → contains pair_cmp new (pair_of d) ≡ true
    → (b : ResourceBinding) → IsSeen new b ↔ (IsSeen old b ⊎ (b ≡ d))
seen_added d old new told here b = (
  λ seen. added_from b d (contains pair_cmp old (pair_of b)) (contains pair_cmp new (pair_of b)) (is_eq (pair_cmp (pair_of d) (pair_of b))) refl (told (pair_of b)) seen,
  λ h. elim h [
    | inl before ↦ added_kept b d (contains pair_cmp old (pair_of b)) (contains pair_cmp new (pair_of b)) (is_eq (pair_cmp (pair_of d) (pair_of b))) (told (pair_of b)) before
    | inr same ↦ subst (IsSeen new) (sym same) here
  ],
)

again_by : (there fresh : Bool) → IsTrue fresh ↔ (there ≡ true → ⊥) → fresh ≡ false → there ≡ true
again_by true fresh told is = refl
again_by false fresh told is = absurd (true≢false (sym (told.1 (λ e. absurd (true≢false (sym e)))) ∙ is))

-- a binding that is not new is seen
pub seen_again : (seen : BTreeSet (ℕ × ℕ)) (b : ResourceBinding) (fresh : Bool) → IsTrue fresh ↔ (IsSeen seen b → ⊥) → fresh ≡ false → IsSeen seen b
seen_again seen b fresh told is = again_by (contains pair_cmp seen (pair_of b)) fresh told is
