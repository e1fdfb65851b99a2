-- In an ordered list the first remaining rule is the best one, whatever the filters.
use Rattle.std.proofs.Common.{◌≡◌, ◌≤◌, ◌⊎◌, ℕ, zero, suc, Bool, true, false, Option, Some, None, List, [], ◌∷◌, refl, ap, sym, subst, inl, inr, ◌∙◌, arith, rules, nat_eq, cond}
use Rattle.std.specs.Prelude.{◌&&◌, ◌==◌, nat_le, is_some, option_and_then, filter, slice_get, if◌then◌else◌}
use Rattle.ir_kinds.specs.declared.scalars.ScalarKind.{ScalarKind}
use Rattle.ir_kinds.specs.declared.scalars.ScalarKind.TheVariants as kind
use Rattle.ir_kinds.specs.declared.scalars.Scalar.{Scalar}
use Rattle.ir_kinds.specs.judged.Scalars.{kind_place, same_scalar, abstract_int, abstract_float}
use Rattle.typing_forms.specs.judged.Ranks.{rank, conversion, rank_in, float_ranks, integer_ranks}
use Rattle.typing_rules.specs.declared.rules.ValueType.{ValueType}
use Rattle.typing_rules.specs.declared.rules.Rule.{Rule}
use Rattle.typing_rules.specs.judged.Types.{constructor_place, value_type_of, argument_list}
use Rattle.typing_rules.specs.judged.Ranks.{type_rank, rank_at, accepts_if, is_concrete}
use Rattle.typing_rules.specs.judged.Laws.{Demand, supplied, concrete, meets, left_by, IsAmong}

-- ---- the test

abbrev pub rank_le : Option ℕ → Option ℕ → Bool
rank_le (Some x) (Some y) = nat_le x y
rank_le _ _ = true

abbrev pub none_or_zero : Option ℕ → Bool
none_or_zero (Some x) = nat_eq x 0
none_or_zero None = true

-- no scalar has a smaller conversion rank to b than to a
abbrev pub scalar_before : Scalar → Scalar → Bool
scalar_before a b =
    none_or_zero (rank b a) && (rank_le (rank_in integer_ranks a) (rank_in integer_ranks b) && rank_le (rank_in float_ranks a) (rank_in float_ranks b))

abbrev pub same_size : ValueType → ValueType → Bool
same_size a b = constructor_place a.size == constructor_place b.size

abbrev pub type_before : ValueType → ValueType → Bool
type_before a b = if same_size a b then scalar_before a.scalar b.scalar else true

abbrev pub all_before : List ValueType → List ValueType → Bool
all_before (a ∷ ats) (b ∷ bs) = type_before a b && all_before ats bs
all_before _ _ = true

-- no argument has a smaller conversion rank to s than to r
abbrev pub before : Rule → Rule → Bool
before r s = all_before (argument_list r.arguments) (argument_list s.arguments)

abbrev pub same_type : ValueType → ValueType → Bool
same_type a b = same_size a b && same_scalar a.scalar b.scalar

-- the first has the type of one of the others, or nothing is accepted for both of these
abbrev pub type_covers : ValueType → ValueType → ValueType → Bool
type_covers q a b = if same_size a b then (if same_type q a then true else same_type q b) else true

abbrev pub all_cover : List ValueType → List ValueType → List ValueType → Bool
all_cover qs [] bs = true
all_cover qs (a ∷ ats) [] = true
all_cover [] (a ∷ ats) (b ∷ bs) = false
all_cover (q ∷ qs) (a ∷ ats) (b ∷ bs) = type_covers q a b && all_cover qs ats bs

-- q remains wherever r and s do
abbrev pub covers : Rule → Rule → Rule → Bool
covers q r s =
    all_cover (argument_list q.arguments) (argument_list r.arguments) (argument_list s.arguments)
    && (if is_concrete r && is_concrete s then is_concrete q else true)

-- an earlier result, or one of these rules remains wherever r and s do
abbrev pub or_covered : Bool → List Rule → Rule → Rule → Bool
or_covered true qs r s = true
or_covered false [] r s = false
or_covered false (q ∷ qs) r s = or_covered (covers q r s) qs r s

abbrev pub all_after : List Rule → Rule → List Rule → Bool
all_after earlier r [] = true
all_after earlier r (s ∷ ss) = or_covered (before r s) earlier r s && all_after earlier r ss

abbrev pub ordered_after : List Rule → List Rule → Bool
ordered_after earlier [] = true
ordered_after earlier (r ∷ rs) = all_after earlier r rs && ordered_after (r ∷ earlier) rs

abbrev pub ordered : List Rule → Bool
ordered rs = ordered_after [] rs

-- ---- tests of two bools

both : (a b : Bool) → a && b ≡ true → (a ≡ true) × (b ≡ true)
both true b h = (refl, h)
both false b h = absurd (cc)

joined : (a b : Bool) → a ≡ true → b ≡ true → a && b ≡ true
joined true b h k = k
joined false b h k = absurd (cc)

le_of : (x y : ℕ) (o p : Option ℕ) → rank_le o p ≡ true → o ≡ Some x → p ≡ Some y → x ≤ y
le_of x y (Some a) (Some b) h e g = let l : a ≤ b = search rules in let e2 : a ≡ x = cc in let g2 : b ≡ y = cc in omega (arith, l, e2, g2)
le_of x y None p h e g = absurd (cc)
le_of x y (Some a) None h e g = absurd (cc)

zero_of : (x : ℕ) (o : Option ℕ) → none_or_zero o ≡ true → o ≡ Some x → x ≡ 0
zero_of x None h e = absurd (cc)
zero_of x (Some a) h e = let z : a ≡ 0 = search rules in cc

chosen : (c : Bool) (u : Option ℕ) (x : ℕ) → (if c then Some 0 else u) ≡ Some x → ((c ≡ true) × (x ≡ 0)) ⊎ ((c ≡ false) × (u ≡ Some x))
chosen true u x h = inl (refl, cc)
chosen false u x h = inr (refl, h)

kept : {A : Type 0} (c : Bool) (u : Option A) (x : A) → (if c then u else None) ≡ Some x → (c ≡ true) × (u ≡ Some x)
kept true u x h = (refl, h)
kept false u x h = absurd (cc)

chosen_test : (c u : Bool) → (if c then u else true) ≡ true → c ≡ true → u ≡ true
chosen_test true u h e = h
chosen_test false u h e = absurd (cc)

either : (a b : Bool) → (if a then true else b) ≡ true → (a ≡ true) ⊎ (b ≡ true)
either true b h = inl refl
either false b h = inr h

-- ---- scalars

kind_of : ℕ → ScalarKind
kind_of zero = kind.Sint
kind_of (suc zero) = kind.Uint
kind_of (suc (suc zero)) = kind.Float
kind_of (suc (suc (suc zero))) = kind.Bool
kind_of (suc (suc (suc (suc zero)))) = kind.AbstractInt
kind_of (suc (suc (suc (suc (suc n))))) = kind.AbstractFloat

kind_back : (k : ScalarKind) → kind_of (kind_place k) ≡ k
unfolding kind_of
kind_back kind.Sint = refl
kind_back kind.Uint = refl
kind_back kind.Float = refl
kind_back kind.Bool = refl
kind_back kind.AbstractInt = refl
kind_back kind.AbstractFloat = refl

is_same_scalar : (a b : Scalar) → same_scalar a b ≡ true → a ≡ b
is_same_scalar a b h =
    let p = both (kind_place a.kind == kind_place b.kind) (a.width == b.width) h in
    let numbers : kind_place a.kind ≡ kind_place b.kind = search (rules, p.0) in
    let widths : a.width ≡ b.width = search (rules, p.1) in
    let kinds : a.kind ≡ b.kind = sym (kind_back a.kind) ∙ (ap kind_of numbers ∙ kind_back b.kind) in
    ap (λ (k : ScalarKind). record { kind = k; width = a.width }) kinds ∙ ap (λ (w : ℕ). record { kind = b.kind; width = w }) widths

-- the conversion ranks are those of one of the two abstract scalars
converted : (c d : Bool) (a b : Scalar) (x y : ℕ) → rank_le (rank_in integer_ranks a) (rank_in integer_ranks b) && rank_le (rank_in float_ranks a) (rank_in float_ranks b) ≡ true
    → (if c then rank_in integer_ranks a else if d then rank_in float_ranks a else None) ≡ Some x
    → (if c then rank_in integer_ranks b else if d then rank_in float_ranks b else None) ≡ Some y → x ≤ y
converted true d a b x y h e g = le_of x y (rank_in integer_ranks a) (rank_in integer_ranks b) (both _ _ h).0 e g
converted false true a b x y h e g = le_of x y (rank_in float_ranks a) (rank_in float_ranks b) (both _ _ h).1 e g
converted false false a b x y h e g = absurd (cc)

scalars_before : (f a b : Scalar) (x y : ℕ) → scalar_before a b ≡ true → rank f a ≡ Some x → rank f b ≡ Some y → x ≤ y
scalars_before f a b x y h e g =
    elim (chosen (same_scalar f a) (conversion f a) x e) [
      | inl l ↦ omega (arith, l.1)
      | inr r ↦
          elim (chosen (same_scalar f b) (conversion f b) y g) [
            | inl l ↦
                (let same : f ≡ b = is_same_scalar f b l.0 in
                let z : x ≡ 0 = zero_of x (rank b a) (both (none_or_zero (rank b a)) _ h).0 (subst (λ (s : Scalar). rank s a ≡ Some x) same e) in
                omega (arith, z))
            | inr q ↦ converted (same_scalar f abstract_int) (same_scalar f abstract_float) a b x y (both (none_or_zero (rank b a)) _ h).1 r.1 q.1
          ]
    ]

-- ---- types

sizes_meet : (f a b : ValueType) → same_size f a ≡ true → same_size f b ≡ true → same_size a b ≡ true
sizes_meet f a b p q =
    let u : constructor_place f.size ≡ constructor_place a.size = search (rules, p) in
    subst (λ (n : ℕ). (n == constructor_place b.size) ≡ true) u q

types_before : (f a b : ValueType) (x y : ℕ) → type_before a b ≡ true → type_rank f a ≡ Some x → type_rank f b ≡ Some y → x ≤ y
types_before f a b x y h e g =
    let p = kept (same_size f a) (rank f.scalar a.scalar) x e in
    let q = kept (same_size f b) (rank f.scalar b.scalar) y g in
    scalars_before f.scalar a.scalar b.scalar x y (chosen_test _ (scalar_before a.scalar b.scalar) h (sizes_meet f a b p.0 q.0)) p.1 q.1

before_at : (ats bs : List ValueType) (i : ℕ) (f : ValueType) (x y : ℕ) → all_before ats bs ≡ true → option_and_then (type_rank f) (slice_get ats i) ≡ Some x → option_and_then (type_rank f) (slice_get bs i) ≡ Some y → x ≤ y
before_at [] bs i f x y h e g = absurd (cc)
before_at (a ∷ ats) [] i f x y h e g = absurd (cc)
before_at (a ∷ ats) (b ∷ bs) zero f x y h e g = types_before f a b x y (both (type_before a b) (all_before ats bs) h).0 e g
before_at (a ∷ ats) (b ∷ bs) (suc i) f x y h e g = before_at ats bs i f x y (both (type_before a b) (all_before ats bs) h).1 e g

-- ---- a rule that covers two others

has_rank : (f a : ValueType) → is_some (type_rank f a) ≡ true → same_size f a ≡ true
has_rank f a h = elim (same_size f a) as (λ (c : Bool). is_some (if c then rank f.scalar a.scalar else None) ≡ true → c ≡ true) [ true ↦ λ k. refl | false ↦ λ k. absurd (cc) ] h

same_rank : (f q a : ValueType) → same_type q a ≡ true → is_some (type_rank f a) ≡ true → is_some (type_rank f q) ≡ true
same_rank f q a h k =
    let p = both (same_size q a) (same_scalar q.scalar a.scalar) h in
    let n : constructor_place q.size ≡ constructor_place a.size = search (rules, p.0) in
    let s : q.scalar ≡ a.scalar = is_same_scalar q.scalar a.scalar p.1 in
    let P : ℕ → Scalar → Type 0 = λ m t. is_some (if constructor_place f.size == m then rank f.scalar t else None) ≡ true in
    subst (λ (m : ℕ). P m q.scalar) (sym n) (subst (λ (t : Scalar). P (constructor_place a.size) t) (sym s) k)

types_cover : (f q a b : ValueType) → type_covers q a b ≡ true → is_some (type_rank f a) ≡ true → is_some (type_rank f b) ≡ true → is_some (type_rank f q) ≡ true
types_cover f q a b h k l =
    let meet = sizes_meet f a b (has_rank f a k) (has_rank f b l) in
    elim (either (same_type q a) (same_type q b) (chosen_test (same_size a b) _ h meet)) [ inl e ↦ same_rank f q a e k | inr e ↦ same_rank f q b e l ]

cover_at : (qs ats bs : List ValueType) (i : ℕ) (f : ValueType) → all_cover qs ats bs ≡ true → is_some (option_and_then (type_rank f) (slice_get ats i)) ≡ true → is_some (option_and_then (type_rank f) (slice_get bs i)) ≡ true → is_some (option_and_then (type_rank f) (slice_get qs i)) ≡ true
cover_at qs [] bs i f h k l = absurd (cc)
cover_at qs (a ∷ ats) [] i f h k l = absurd (cc)
cover_at [] (a ∷ ats) (b ∷ bs) i f h k l = absurd (cc)
cover_at (q ∷ qs) (a ∷ ats) (b ∷ bs) zero f h k l = types_cover f q a b (both (type_covers q a b) (all_cover qs ats bs) h).0 k l
cover_at (q ∷ qs) (a ∷ ats) (b ∷ bs) (suc i) f h k l = cover_at qs ats bs i f (both (type_covers q a b) (all_cover qs ats bs) h).1 k l

cover_if : (q r s : Rule) (i : ℕ) (o : Option ValueType) → covers q r s ≡ true → accepts_if i o r ≡ true → accepts_if i o s ≡ true → accepts_if i o q ≡ true
cover_if q r s i (Some f) h k l =
    cover_at (argument_list q.arguments) (argument_list r.arguments) (argument_list s.arguments) i f (both (all_cover (argument_list q.arguments) (argument_list r.arguments) (argument_list s.arguments)) _ h).0 k l
cover_if q r s i None h k l = k

covered : (q r s : Rule) (demand : Demand) → covers q r s ≡ true → meets demand r ≡ true → meets demand s ≡ true → meets demand q ≡ true
covered q r s (supplied i given) h k l = cover_if q r s i (value_type_of given) h k l
covered q r s concrete h k l =
    chosen_test (is_concrete r && is_concrete s) (is_concrete q) (both (all_cover (argument_list q.arguments) (argument_list r.arguments) (argument_list s.arguments)) _ h).1 (joined _ _ k l)

-- ---- all filters together

abbrev meets_all : List Demand → Rule → Bool
meets_all [] r = true
meets_all (d ∷ ds) r = meets d r && meets_all ds r

all_covered : (ds : List Demand) (q r s : Rule) → covers q r s ≡ true → meets_all ds r ≡ true → meets_all ds s ≡ true → meets_all ds q ≡ true
all_covered [] q r s h k l = refl
all_covered (d ∷ ds) q r s h k l =
    let p = both (meets d r) (meets_all ds r) k in
    let o = both (meets d s) (meets_all ds s) l in
    joined (meets d q) (meets_all ds q) (covered q r s d h p.0 o.0) (all_covered ds q r s h p.1 o.1)

meets_one : (ds : List Demand) (d : Demand) (r : Rule) → IsAmong d ds → meets_all ds r ≡ true → meets d r ≡ true
meets_one [] d r m h = absurd m
meets_one (e ∷ es) d r m h =
    elim m [
      | inl same ↦ subst (λ (f : Demand). meets f r ≡ true) same (both (meets e r) (meets_all es r) h).0
      | inr more ↦ meets_one es d r more (both (meets e r) (meets_all es r) h).1
    ]

all_kept : (rs : List Rule) → filter (λ r. true) rs ≡ rs
all_kept [] = refl
all_kept (r ∷ rs) = ap (λ zs. r ∷ zs) (all_kept rs)

kept_both : (p q : Rule → Bool) (r : Rule) (rs : List Rule) (b : Bool) → p r ≡ b → filter q (filter p rs) ≡ filter (λ x. p x && q x) rs
    → filter q (cond b (r ∷ filter p rs) (filter p rs)) ≡ cond (b && q r) (r ∷ filter (λ x. p x && q x) rs) (filter (λ x. p x && q x) rs)
kept_both p q r rs true h e = ap (λ zs. cond (q r) (r ∷ zs) zs) e
kept_both p q r rs false h e = e

filter_both : (p q : Rule → Bool) (rs : List Rule) → filter q (filter p rs) ≡ filter (λ x. p x && q x) rs
filter_both p q [] = refl
filter_both p q (r ∷ rs) = kept_both p q r rs (p r) refl (filter_both p q rs)

left_is : (ds : List Demand) (rs : List Rule) → left_by ds rs ≡ filter (meets_all ds) rs
left_is [] rs = sym (all_kept rs)
left_is (d ∷ ds) rs = left_is ds (filter (meets d) rs) ∙ filter_both (meets d) (meets_all ds) rs

-- ---- the first remaining rule

abbrev NoneMeets : List Demand → List Rule → Type 0
NoneMeets ds [] = Unit {0}
NoneMeets ds (q ∷ qs) = (meets_all ds q ≡ false) × NoneMeets ds qs

told : (ds : List Demand) (b : Bool) (qs : List Rule) (r s : Rule) → or_covered b qs r s ≡ true → NoneMeets ds qs → meets_all ds r ≡ true → meets_all ds s ≡ true → b ≡ true
told ds true qs r s h n k l = refl
told ds false [] r s h n k l = h
told ds false (q ∷ qs) r s h n k l =
    let c : covers q r s ≡ true = told ds (covers q r s) qs r s h n.1 k l in
    let m : meets_all ds q ≡ true = all_covered ds q r s c k l in
    let f : meets_all ds q ≡ false = n.0 in
    absurd (cc)

among_step : (p : Rule → Bool) (s r : Rule) (rs : List Rule) (b : Bool) → (IsAmong s (filter p rs) → IsAmong s rs × (p s ≡ true)) → p r ≡ b
    → IsAmong s (cond b (r ∷ filter p rs) (filter p rs)) → IsAmong s (r ∷ rs) × (p s ≡ true)
among_step p s r rs true again h m = elim m [ inl e ↦ (inl e, subst (λ (u : Rule). p u ≡ true) e h) | inr q ↦ (let t = again q in (inr t.0, t.1)) ]
among_step p s r rs false again h m = let t = again m in (inr t.0, t.1)

among_kept : (p : Rule → Bool) (s : Rule) (rs : List Rule) → IsAmong s (filter p rs) → IsAmong s rs × (p s ≡ true)
among_kept p s [] m = absurd m
among_kept p s (r ∷ rs) m = among_step p s r rs (p r) (among_kept p s rs) refl m

after_among : (ds : List Demand) (earlier : List Rule) (r s : Rule) (ss : List Rule) → all_after earlier r ss ≡ true → IsAmong s ss → or_covered (before r s) earlier r s ≡ true
after_among ds earlier r s [] h m = absurd m
after_among ds earlier r s (t ∷ ts) h m =
    let p = both (or_covered (before r t) earlier r t) (all_after earlier r ts) h in
    elim m [ inl e ↦ subst (λ (u : Rule). or_covered (before r u) earlier r u ≡ true) e p.0 | inr q ↦ after_among ds earlier r s ts p.1 q ]

abbrev FirstIsBest : List Demand → List Rule → List Rule → Rule → Rule → Type 0
FirstIsBest ds earlier rs r s =
    ordered_after earlier rs ≡ true → NoneMeets ds earlier → slice_get (filter (meets_all ds) rs) 0 ≡ Some r → IsAmong s (filter (meets_all ds) rs)
    → (r ≡ s) ⊎ (before r s ≡ true)

best_step : (ds : List Demand) (earlier ts : List Rule) (t r s : Rule) (b : Bool) → FirstIsBest ds (t ∷ earlier) ts r s → ordered_after earlier (t ∷ ts) ≡ true → NoneMeets ds earlier
    → meets_all ds t ≡ b → slice_get (cond b (t ∷ filter (meets_all ds) ts) (filter (meets_all ds) ts)) 0 ≡ Some r
    → IsAmong s (cond b (t ∷ filter (meets_all ds) ts) (filter (meets_all ds) ts)) → (r ≡ s) ⊎ (before r s ≡ true)
best_step ds earlier ts t r s true again o n h f k =
    let first : t ≡ r = cc in
    elim k [
      | inl same ↦ inl (sym first ∙ same)
      | inr later ↦
          (let found = among_kept (meets_all ds) s ts later in
          let test : or_covered (before t s) earlier t s ≡ true = after_among ds earlier t s ts (both (all_after earlier t ts) _ o).0 found.0 in
          inr (subst (λ (u : Rule). before u s ≡ true) first (told ds (before t s) earlier t s test n h found.1)))
    ]
best_step ds earlier ts t r s false again o n h f k = again (both (all_after earlier t ts) (ordered_after (t ∷ earlier) ts) o).1 (h, n) f k

-- of the remaining rules the first one comes before the others, or is the same
best_of : (ds : List Demand) (earlier rs : List Rule) (r s : Rule) → FirstIsBest ds earlier rs r s
best_of ds earlier [] r s o n e m = absurd m
best_of ds earlier (t ∷ ts) r s o n e m = best_step ds earlier ts t r s (meets_all ds t) (best_of ds (t ∷ earlier) ts r s) o n refl e m

pub best_left : (rs : List Rule) → ordered rs ≡ true → (ds : List Demand) (r s : Rule) → slice_get (left_by ds rs) 0 ≡ Some r → IsAmong s (left_by ds rs)
    → (i : ℕ) (f : ValueType) (x y : ℕ) → rank_at i f r ≡ Some x → rank_at i f s ≡ Some y → x ≤ y
best_left rs o ds r s e m i f x y a b =
    let e2 : slice_get (filter (meets_all ds) rs) 0 ≡ Some r = subst (λ (l : List Rule). slice_get l 0 ≡ Some r) (left_is ds rs) e in
    let m2 : IsAmong s (filter (meets_all ds) rs) = subst (λ (l : List Rule). IsAmong s l) (left_is ds rs) m in
    elim (best_of ds [] rs r s o tt e2 m2) [
      | inl same ↦
          (let c : rank_at i f s ≡ Some x = subst (λ (u : Rule). rank_at i f u ≡ Some x) same a in
          let d : x ≡ y = cc (c, b) in
          omega (arith, d))
      | inr h ↦ before_at (argument_list r.arguments) (argument_list s.arguments) i f x y h a b
    ]
