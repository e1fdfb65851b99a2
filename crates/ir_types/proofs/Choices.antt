-- A law of a derived `==`, from one law per variant, so that the proof grows with the variants and not with their pairs.
use Rattle.std.proofs.Common.{◌≡◌, IsTrue, Bool, true, false, true≢false, ◌&&◌, refl, sym, ap, ◌∙◌, List, [], ◌∷◌, ◌⊎◌, inl, inr}
use denote.Struct.Field.{Field}
use denote.Struct.Values.{Values}
use denote.Enum.Declared.{Record, Choice}
use denote.Enum.Compared.{Each, by}

pub both : (x y : Bool) → IsTrue (x && y) → IsTrue x × IsTrue y
both true y e = (refl, e)
both false y e = absurd (true≢false (sym e))

-- an `==`, and that it is equality
abbrev pub Test : Type 0 → Type 0
Test A = (eq : A → A → Bool) × ((a b : A) → IsTrue (eq a b) → a ≡ b)

-- one equality for each field
abbrev pub Tests : List Field → Type 0
Tests [] = Unit {0}
Tests (F ∷ Fs) = Test F.Value × Tests Fs

abbrev pub all_equal : (Fs : List Field) → Tests Fs → Values Fs → Values Fs → Bool
all_equal [] tests x y = true
all_equal (F ∷ []) tests x y = tests.0.0 x.0 y.0
all_equal (F ∷ G ∷ Fs) tests x y = tests.0.0 x.0 y.0 && all_equal (G ∷ Fs) tests.1 x.1 y.1

pub same_fields : (Fs : List Field) (tests : Tests Fs) (x y : Values Fs) → IsTrue (all_equal Fs tests x y) → x ≡ y
same_fields [] tests x y e = refl
same_fields (F ∷ []) tests x y e = λ i. (tests.0.1 x.0 y.0 e i, tt)
same_fields (F ∷ G ∷ Fs) tests x y e =
    let h : IsTrue (tests.0.0 x.0 y.0) × IsTrue (all_equal (G ∷ Fs) tests.1 x.1 y.1) = both _ _ e in
    λ i. (tests.0.1 x.0 y.0 h.0 i, same_fields (G ∷ Fs) tests.1 x.1 y.1 h.1 i)

-- the `==` of the fields of one variant, and that it agrees with equality of the views
abbrev pub Law : {W : Type 0} (Fs : List Field) → (Values Fs → W) → Type 0
Law Fs view = (eq : Values Fs → Values Fs → Bool) × ((x y : Values Fs) → IsTrue (eq x y) → view x ≡ view y)

-- for each variant its fields' equalities, or such a law
abbrev pub Laws : {W : Type 0} (Fss : List (List Field)) → (Choice Fss → W) → Type 0
Laws [] view = Unit {0}
Laws (Fs ∷ Fss) view = (Tests Fs ⊎ Law Fs (λ x. view (inl x))) × Laws Fss (λ c. view (inr c))

abbrev equality_of : {W : Type 0} (Fs : List Field) (view : Values Fs → W) → Tests Fs ⊎ Law Fs view → Values Fs → Values Fs → Bool
equality_of Fs view (inl tests) = all_equal Fs tests
equality_of Fs view (inr law) = law.0

abbrev pub equalities : {W : Type 0} (Fss : List (List Field)) (view : Choice Fss → W) → Laws Fss view → Each Bool Fss
equalities [] view laws = tt
equalities (Fs ∷ Fss) view laws = (equality_of Fs (λ x. view (inl x)) laws.0, equalities Fss (λ c. view (inr c)) laws.1)

same_variant : {W : Type 0} (Fs : List Field) (view : Values Fs → W) (law : Tests Fs ⊎ Law Fs view) (x y : Values Fs)
    → IsTrue (equality_of Fs view law x y) → view x ≡ view y
same_variant Fs view (inl tests) x y e = ap view (same_fields Fs tests x y e)
same_variant Fs view (inr law) x y e = law.1 x y e

same_choice : {W : Type 0} (Fss : List (List Field)) (view : Choice Fss → W) (laws : Laws Fss view) (c d : Choice Fss)
    → IsTrue (by false false Fss (equalities Fss view laws) c d) → view c ≡ view d
same_choice [] view laws c d e = absurd c
same_choice (Fs ∷ Fss) view laws (inl x) (inl y) e = same_variant Fs (λ z. view (inl z)) laws.0 x y e
same_choice (Fs ∷ Fss) view laws (inl x) (inr d) e = absurd (true≢false (sym e))
same_choice (Fs ∷ Fss) view laws (inr c) (inl y) e = absurd (true≢false (sym e))
same_choice (Fs ∷ Fss) view laws (inr c) (inr d) e = same_choice Fss (λ k. view (inr k)) laws.1 c d e

-- values that are `==` have equal views
pub same_view : {W : Type 0} (N : Record) (view : N.D → W) (laws : Laws N.parts (λ c. view (N.make c))) (a b : N.D)
    → IsTrue (by false false N.parts (equalities N.parts (λ c. view (N.make c)) laws) (N.as_values a) (N.as_values b)) → view a ≡ view b
same_view N view laws a b e =
    ap view (sym (N.eta a)) ∙ same_choice N.parts (λ c. view (N.make c)) laws (N.as_values a) (N.as_values b) e ∙ ap view (N.eta b)
