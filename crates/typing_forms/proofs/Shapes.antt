-- Types of the same shape, step by step.
use Rattle.std.proofs.Common.{◌≡◌, ◌<◌, ℕ, List, [], ◌∷◌, length, Option, Some, None, Bool, true, false, All, if◌then◌else◌, IfSome, IfNone, refl, sym, ap, subst, ◌∙◌, rules}
use Rattle.std.proofs.lemmas.Option.{same_Some}
use Rattle.ir_kinds.specs.declared.scalars.Scalar.{Scalar}
use Rattle.ir_types.specs.judged.Plain.{PlainInner, struct, plain, PlainType}
use Rattle.ir_types.specs.declared.types.TypeInner.TheVariants as inner
use Rattle.typing_forms.specs.judged.Order.{named_types, TypesGoBack}
use Rattle.typing_forms.specs.judged.Ranks.{conversion}
use Rattle.typing_forms.specs.judged.Resolutions.{inner_at}
use Rattle.typing_forms.specs.found.Conversions.{same_count, scalars_of, bases_of, both_found, both_at, SameShape, alike, elements, SameShapeAt}
use Rattle.typing_forms.proofs.Walks.{one_below}

-- ---- pairs of types

-- the value for a pair of types exists only if both exist
found_both : {A : Type 0} (f : PlainInner → PlainInner → Option A) (o p : Option PlainInner) (r : A) → both_found f o p ≡ Some r
    → (i : PlainInner) × (o ≡ Some i) × (j : PlainInner) × (p ≡ Some j) × (f i j ≡ Some r)
found_both f (Some i) (Some j) r e = (i, refl, j, refl, e)
found_both f (Some i) None r e = let h = e in cc
found_both f None p r e = let h = e in cc

both_of : {A : Type 0} (f : PlainInner → PlainInner → Option A) (o p : Option PlainInner) (i j : PlainInner) → o ≡ Some i → p ≡ Some j → both_found f o p ≡ f i j
both_of f o p i j a b = ap (λ x. both_found f x p) a ∙ ap (both_found f (Some i)) b

picked : {A : Type 0} (x r : A) (b : Bool) → (if b then Some x else None) ≡ Some r → x ≡ r
picked x r true e = same_Some _ _ e
picked x r false e = let h = e in cc

-- the first base of two arrays is one that the first array refers to
pair_named : (i j : PlainInner) (pair : ℕ × ℕ) (bound : ℕ) → bases_of i j ≡ Some pair → All (λ named. named < bound) (named_types i) → pair.0 < bound
pair_named (plain (inner.Array base size stride)) (plain (inner.Array other length step)) pair bound e all =
    subst (λ (p : ℕ × ℕ). p.0 < bound) (picked (base, other) pair (same_count size length) e) (one_below bound (base ∷ []) 0 base all refl)
pair_named (plain (inner.Array base size stride)) (plain j) pair bound e all = let h = e in cc
pair_named (plain (inner.Array base size stride)) (struct members span) pair bound e all = let h = e in cc
pair_named (plain i) j pair bound e all = let h = e in cc
pair_named (struct members span) j pair bound e all = let h = e in cc

-- an array has no scalar of its own
no_scalars : (i j : PlainInner) (pair : ℕ × ℕ) → bases_of i j ≡ Some pair → scalars_of i j ≡ None
no_scalars (plain (inner.Array base size stride)) (plain (inner.Array other length step)) pair e = refl
no_scalars (plain (inner.Array base size stride)) (plain j) pair e = let h = e in cc
no_scalars (plain (inner.Array base size stride)) (struct members span) pair e = let h = e in cc
no_scalars (plain i) j pair e = let h = e in cc
no_scalars (struct members span) j pair e = let h = e in cc

module _ (types : List PlainType) where
  -- ---- two types differ in one pair of scalars

  pub goes_on : (i j : PlainInner) (base other : ℕ) (s t : Scalar) → bases_of i j ≡ Some (base, other) → SameShape types i j s t → SameShapeAt types base other s t
  goes_on i j base other s t e (alike scalars) = absurd (let none = no_scalars i j (base, other) e in let h = scalars in cc)
  goes_on i j base other s t e (elements {k = k} {l = l} {base = b} {other = o} pair left right rest) =
      let same : (b, o) ≡ (base, other) = same_Some _ _ (sym pair ∙ e) in
      (k, sym (ap (λ (p : ℕ × ℕ). inner_at types p.0) same) ∙ left, l, sym (ap (λ (p : ℕ × ℕ). inner_at types p.1) same) ∙ right, rest)

  pub comes_from : (i j : PlainInner) (base other : ℕ) (s t : Scalar) → bases_of i j ≡ Some (base, other) → SameShapeAt types base other s t → SameShape types i j s t
  comes_from i j base other s t e at = elements e at.1 at.3 at.4

  pub ends_in : (i j : PlainInner) (s t : Scalar) → bases_of i j ≡ None → SameShape types i j s t → scalars_of i j ≡ Some (s, t)
  ends_in i j s t none (alike scalars) = scalars
  ends_in i j s t none (elements pair left right rest) = absurd (let h = pair in let n = none in cc)

  one_pair : (i j : PlainInner) (s t u v : Scalar) → SameShape types i j s t → SameShape types i j u v → ◌≡◌ {A = Scalar × Scalar} (s, t) (u, v)
  one_pair i j s t u v (alike a) (alike b) = same_Some _ _ (sym a ∙ b)
  one_pair i j s t u v (alike a) (elements {base = b} {other = o} pair left right rest) = absurd (let none = no_scalars i j (b, o) pair in let h = a in cc)
  one_pair i j s t u v (elements {base = b} {other = o} pair left right rest) (alike a) = absurd (let none = no_scalars i j (b, o) pair in let h = a in cc)
  one_pair i j s t u v (elements {k = k} {l = l} {base = b} {other = o} pair left right rest) (elements {k = m} {l = n} {base = c} {other = d} again there found others) =
      let same : (c, d) ≡ (b, o) = same_Some _ _ (sym again ∙ pair) in
      let first : m ≡ k = same_Some _ _ (sym there ∙ (ap (λ (p : ℕ × ℕ). inner_at types p.0) same ∙ left)) in
      let second : n ≡ l = same_Some _ _ (sym found ∙ (ap (λ (p : ℕ × ℕ). inner_at types p.1) same ∙ right)) in
      one_pair k l s t u v rest (subst (λ x. SameShape types x l u v) first (subst (λ x. SameShape types m x u v) second others))

  -- ---- a step of the loop

  -- the types at two handles differ in the scalars in which those at two others do
  pub record SameScalars (left right from goal : ℕ) : Type 0 where
    pub from_left : (s t : Scalar) → SameShapeAt types left right s t → SameShapeAt types from goal s t
    pub to_left : (s t : Scalar) → SameShapeAt types from goal s t → SameShapeAt types left right s t

  pub pair_below : TypesGoBack types → (left right base other : ℕ) → both_at bases_of types left right ≡ Some (base, other) → base < left
  pair_below back left right base other e =
      let found = found_both bases_of (inner_at types left) (inner_at types right) (base, other) e in
      pair_named found.0 found.2 (base, other) left found.4 (back.each left found.0 found.1)

  pub scalars_more : (left right from goal base other : ℕ) → SameScalars left right from goal → both_at bases_of types left right ≡ Some (base, other) → SameScalars base other from goal
  scalars_more left right from goal base other same e =
      let found = found_both bases_of (inner_at types left) (inner_at types right) (base, other) e in
      record {
        from_left = λ s t at. same.from_left s t (found.0, found.1, found.2, found.3, comes_from found.0 found.2 base other s t found.4 at);
        to_left = λ s t at. down found.0 found.2 s t found.1 found.3 found.4 (same.to_left s t at);
      } where
        down : (i j : PlainInner) (s t : Scalar) → inner_at types left ≡ Some i → inner_at types right ≡ Some j → bases_of i j ≡ Some (base, other) → SameShapeAt types left right s t → SameShapeAt types base other s t
        down i j s t ati atj pair at =
            goes_on i j base other s t pair
            (subst (λ x. SameShape types x j s t) (same_Some _ _ (sym at.1 ∙ ati)) (subst (λ x. SameShape types at.0 x s t) (same_Some _ _ (sym at.3 ∙ atj)) at.4))

  pub some_differ : (left right from goal : ℕ) (r : Option (Scalar × Scalar)) → SameScalars left right from goal → r ≡ both_at scalars_of types left right
      → IfSome r (λ p. SameShapeAt types from goal p.0 p.1)
  some_differ left right from goal (Some p) same is =
      let found = found_both scalars_of (inner_at types left) (inner_at types right) p (sym is) in
      same.from_left p.0 p.1 (found.0, found.1, found.2, found.3, alike found.4)
  some_differ left right from goal None same is = search rules

  pub none_differ : (left right from goal : ℕ) (r : Option (Scalar × Scalar)) → SameScalars left right from goal → both_at bases_of types left right ≡ None
      → r ≡ both_at scalars_of types left right → IfNone r ((s t : Scalar) → SameShapeAt types from goal s t → ⊥)
  none_differ left right from goal (Some p) same ended is = search rules
  none_differ left right from goal None same ended is = λ s t at. lost s t (same.to_left s t at) where
    lost : (s t : Scalar) → SameShapeAt types left right s t → ⊥
    lost s t at =
        let none : bases_of at.0 at.2 ≡ None = sym (both_of bases_of (inner_at types left) (inner_at types right) at.0 at.2 at.1 at.3) ∙ ended in
        let some : scalars_of at.0 at.2 ≡ Some (s, t) = ends_in at.0 at.2 s t none at.4 in
        let here : both_at scalars_of types left right ≡ scalars_of at.0 at.2 = both_of scalars_of (inner_at types left) (inner_at types right) at.0 at.2 at.1 at.3 in
        let h = is in cc

  -- ---- the types themselves

  pub some_whole : (i j : PlainInner) (base other : ℕ) (r : Option (Scalar × Scalar)) → bases_of i j ≡ Some (base, other) → IfSome r (λ p. SameShapeAt types base other p.0 p.1)
      → IfSome r (λ p. SameShape types i j p.0 p.1)
  some_whole i j base other (Some p) pair at = comes_from i j base other p.0 p.1 pair at
  some_whole i j base other None pair at = at

  pub none_whole : (i j : PlainInner) (base other : ℕ) (r : Option (Scalar × Scalar)) → bases_of i j ≡ Some (base, other) → IfNone r ((s t : Scalar) → SameShapeAt types base other s t → ⊥)
      → IfNone r ((s t : Scalar) → SameShape types i j s t → ⊥)
  none_whole i j base other (Some p) pair at = at
  none_whole i j base other None pair at = λ s t shape. at s t (goes_on i j base other s t pair shape)

  pub some_alike : (i j : PlainInner) (r : Option (Scalar × Scalar)) → r ≡ scalars_of i j → IfSome r (λ p. SameShape types i j p.0 p.1)
  some_alike i j (Some p) is = alike (sym is)
  some_alike i j None is = search rules

  pub none_alike : (i j : PlainInner) (r : Option (Scalar × Scalar)) → bases_of i j ≡ None → r ≡ scalars_of i j → IfNone r ((s t : Scalar) → SameShape types i j s t → ⊥)
  none_alike i j (Some p) ended is = search rules
  none_alike i j None ended is = λ s t shape. (let some = ends_in i j s t ended shape in let h = is in cc)

  pub no_conversion : (i j : PlainInner) (s t : Scalar) → SameShape types i j s t → conversion s t ≡ None → (u v : Scalar) → SameShape types i j u v → conversion u v ≡ None
  no_conversion i j s t shape none u v other =
      sym (ap (λ (p : Scalar × Scalar). conversion p.0 p.1) (one_pair i j s t u v shape other)) ∙ none
