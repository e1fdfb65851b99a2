-- The facts of earlier expressions determine those of later ones.
use Rattle.std.proofs.Common.{◌≡◌, ◌⊎◌, ℕ, zero, suc, ◌+◌, ◌<◌, ◌≤◌, Option, Some, None, Bool, true, false, true≢false, IsTrue, List, [], ◌∷◌, ◌++◌, length, map, refl, sym, ap, ◌∙◌, subst, inl, inr, arith, slice_get}
use Rattle.std.specs.Prelude.{◌↔◌}
use Rattle.std.proofs.lemmas.Bool.{cases_lt}
use Rattle.std.proofs.lemmas.Option.{same_Some}
use Rattle.typing_rules.specs.judged.Laws.{IsAmong}
use Rattle.ir_arena.specs.judged.Handles.{handles_from}
use Rattle.ir_arena.specs.declared.span.Span.{Span}
use Rattle.ir_types.specs.judged.ExpressionPlain.{PlainExpression, plain, expression_view}
use Rattle.ir_types.specs.declared.expressions.Expression.{Expression}
use Rattle.ir_types.specs.declared.expressions.Expression.TheVariants as x
use Rattle.ir_items.specs.found.GlobalView.{values_of}
use Rattle.ir_items.specs.judged.Plain.{PlainFunction, PlainModule}
use Rattle.spec_expressions.specs.judged.OperandUses.{Operand, operand, expression_uses}
use Rattle.spec_expressions.specs.declared.operand.Usage.TheVariants.{Base}
use Rattle.spec_expressions.specs.judged.Values.{inner_of, known_at, is_source, ComesFrom, itself, through, StartsAt, is_global, accessed, accessed_index, AreStarts, UsesPrecede, IsExact}
use Rattle.typing_uniformity.specs.Facts.{or_known, find_all, source_if, source_of, start_of, sources_of, starts_of, AreSources}

none_some : {X : Type 0} {A : Type 0} {x : X} → None ≡ Some x → A
none_some e = absurd (cc (e))

-- ---- lists

get_before : {X : Type 0} (xs : List X) (y : X) (i : ℕ) → i < length xs → slice_get (xs ++ y ∷ []) i ≡ slice_get xs i
get_before [] y i lt = absurd (omega (arith, lt))
get_before (x ∷ xs) y zero lt = refl
get_before (x ∷ xs) y (suc i) lt = get_before xs y i (omega (arith, lt))

get_last : {X : Type 0} (xs : List X) (y : X) → slice_get (xs ++ y ∷ []) (length xs) ≡ Some y
get_last [] y = refl
get_last (x ∷ xs) y = get_last xs y

length_more : {X : Type 0} (xs : List X) (y : X) → length (xs ++ y ∷ []) ≡ length xs + 1
length_more [] y = refl
length_more (x ∷ xs) y = let r = length_more xs y in omega (arith, r)

get_past : {X : Type 0} (xs : List X) (i : ℕ) → length xs ≤ i → slice_get xs i ≡ None
get_past [] i le = refl
get_past (x ∷ xs) zero le = absurd (omega (arith, le))
get_past (x ∷ xs) (suc i) le = get_past xs i (omega (arith, le))

length_views : (entries : List (Expression × Span)) → length (map expression_view (values_of entries)) ≡ length entries
length_views [] = refl
length_views (e ∷ rest) = ap suc (length_views rest)

known_before : (known : List (Option ℕ)) (y : Option ℕ) (e : ℕ) → e < length known → known_at (known ++ y ∷ []) e ≡ known_at known e
known_before known y e lt = ap inner_of (get_before known y e lt)

known_last : (known : List (Option ℕ)) (y : Option ℕ) → known_at (known ++ y ∷ []) (length known) ≡ y
known_last known y = ap inner_of (get_last known y)

-- the list from p on is this
abbrev OccursFrom : List PlainExpression → ℕ → List (Expression × Span) → Type 0
OccursFrom xs p entries = (i : ℕ) → slice_get xs (p + i) ≡ slice_get (map expression_view (values_of entries)) i

plus_zero : (p : ℕ) → p ≡ p + 0
plus_zero p = omega arith

plus_more : (p i : ℕ) → (p + 1) + i ≡ p + suc i
plus_more p i = omega arith

zero_plus : (i : ℕ) → 0 + i ≡ i
zero_plus i = omega arith

stands_here : (xs : List PlainExpression) (p : ℕ) (e : Expression × Span) (rest : List (Expression × Span)) → OccursFrom xs p (e ∷ rest) → slice_get xs p ≡ Some (expression_view e.0)
stands_here xs p e rest stands = ap (slice_get xs) (plus_zero p) ∙ stands 0

stands_after : (xs : List PlainExpression) (p : ℕ) (e : Expression × Span) (rest : List (Expression × Span)) → OccursFrom xs p (e ∷ rest) → OccursFrom xs (p + 1) rest
stands_after xs p e rest stands i = ap (slice_get xs) (plus_more p i) ∙ stands (suc i)

-- ---- sources

or_some : (known : List (Option ℕ)) (e : ℕ) (found : Option ℕ) (v : ℕ) → or_known known e found ≡ Some v → (found ≡ Some v) ⊎ (known_at known e ≡ Some v)
or_some known e (Some s) v h = inl h
or_some known e None v h = inr h

or_none : (known : List (Option ℕ)) (e : ℕ) (found : Option ℕ) → or_known known e found ≡ None → (found ≡ None) × (known_at known e ≡ None)
or_none known e (Some s) h = none_some (sym h)
or_none known e None h = (refl, h)

find_some : (known : List (Option ℕ)) (os : List Operand) (found : Option ℕ) (v : ℕ) → find_all known os found ≡ Some v → (found ≡ Some v) ⊎ ((o : Operand) × IsAmong o os × (known_at known o.handle ≡ Some v))
find_some known [] found v h = inl h
find_some known (o ∷ os) found v h = elim (find_some known os (or_known known o.handle found) v h) [
  | inl l ↦ elim (or_some known o.handle found v l) [ inl a ↦ inl a | inr b ↦ inr (o, inl refl, b) ]
  | inr r ↦ inr (r.0, inr r.1, r.2)
]

find_none : (known : List (Option ℕ)) (os : List Operand) (found : Option ℕ) → find_all known os found ≡ None → (found ≡ None) × ((o : Operand) → IsAmong o os → known_at known o.handle ≡ None)
find_none known [] found h = (h, λ o among. elim among [ ])
find_none known (o ∷ os) found h =
    let r = find_none known os (or_known known o.handle found) h in
    let here = or_none known o.handle found r.0 in
    (here.0, λ q among. elim among [ inl is ↦ subst (λ z. known_at known z.handle ≡ None) is here.1 | inr later ↦ r.1 q later ])

-- how a value gets its source
record Through (m : PlainModule) (f : PlainFunction) (e s : ℕ) : Type 0 where
  expression : PlainExpression
  operand : Operand
  stands : slice_get f.expressions e ≡ Some expression
  among : IsAmong operand (expression_uses expression)
  comes : ComesFrom m f operand.handle s

record Itself (m : PlainModule) (f : PlainFunction) (e s : ℕ) : Type 0 where
  expression : PlainExpression
  stands : slice_get f.expressions e ≡ Some expression
  source : IsTrue (is_source m f expression)
  same : e ≡ s

comes_cases : (m : PlainModule) (f : PlainFunction) (e s : ℕ) → ComesFrom m f e s → Itself m f e s ⊎ Through m f e s
comes_cases m f e s (itself expression stands source) = inl (record { expression = expression; stands = stands; source = source; same = refl })
comes_cases m f e s (through expression operand stands among comes) = inr (record { expression = expression; operand = operand; stands = stands; among = among; comes = comes })

-- the sources of the first expressions are known
abbrev SourcesKnown : PlainModule → PlainFunction → List (Option ℕ) → Type 0
SourcesKnown m f known = (e : ℕ) → e < length known → IsExact (known_at known e) (ComesFrom m f e)

module _ (m : PlainModule) (f : PlainFunction) (precede : UsesPrecede f.expressions) (known : List (Option ℕ)) (sources : SourcesKnown m f known) (expression : PlainExpression) (at : slice_get f.expressions (length known) ≡ Some expression) where
  exact_if : (b : Bool) → is_source m f expression ≡ b → IsExact (source_if b (length known) (find_all known (expression_uses expression) None)) (ComesFrom m f (length known))
  exact_if true is = record {
    found = λ s e. subst (ComesFrom m f (length known)) (same_Some _ _ e) (itself expression at is);
    none = λ e. none_some (sym e);
  }
  exact_if false is = record {
    found = λ s e. elim (find_some known (expression_uses expression) None s e) [
      | inl n ↦ none_some n
      | inr (o, among, have) ↦ through expression o at among ((sources o.handle (precede (length known) expression o at among)).found s have)
    ];
    none = λ e s c. elim (comes_cases m f (length known) s c) [
      | inl own ↦ true≢false (sym own.source ∙ (ap (is_source m f) (same_Some _ _ (sym own.stands ∙ at)) ∙ is))
      | inr t ↦
          (let same : t.expression ≡ expression = same_Some _ _ (sym t.stands ∙ at) in
          let among : IsAmong t.operand (expression_uses expression) = subst (λ z. IsAmong t.operand (expression_uses z)) same t.among in
          (sources t.operand.handle (precede (length known) expression t.operand at among)).none ((find_none known (expression_uses expression) None e).1 t.operand among) s t.comes)
    ];
  }

  source_more : SourcesKnown m f (known ++ source_of m f known (length known) expression ∷ [])
  source_more e lt = elim (cases_lt e (length known)) [
    | inl before ↦ subst (λ z. IsExact z (ComesFrom m f e)) (sym (known_before known (source_of m f known (length known) expression) e before)) (sources e before)
    | inr past ↦
        (let longer : e < length known + 1 = subst (λ z. e < z) (length_more known (source_of m f known (length known) expression)) lt in
        let same : length known ≡ e = omega (arith, longer, past) in
        subst (λ z. IsExact (known_at (known ++ source_of m f known (length known) expression ∷ []) z) (ComesFrom m f z)) same
        (subst (λ z. IsExact z (ComesFrom m f (length known))) (sym (known_last known (source_of m f known (length known) expression))) (exact_if (is_source m f expression) refl)))
  ]

sources_all : (m : PlainModule) (f : PlainFunction) → UsesPrecede f.expressions → (entries : List (Expression × Span)) (known : List (Option ℕ)) (p : ℕ) → length known ≡ p → OccursFrom f.expressions p entries → SourcesKnown m f known
    → SourcesKnown m f (sources_of m f known (handles_from p entries)) × (length (sources_of m f known (handles_from p entries)) ≡ p + length entries)
sources_all m f precede [] known p len stands sources = (sources, len ∙ plus_zero p)
sources_all m f precede (e ∷ rest) known p len stands sources =
    let at : slice_get f.expressions (length known) ≡ Some (expression_view e.0) = ap (slice_get f.expressions) len ∙ stands_here f.expressions p e rest stands in
    let more : SourcesKnown m f (known ++ source_of m f known p (expression_view e.0) ∷ []) =
    subst (λ z. SourcesKnown m f (known ++ source_of m f known z (expression_view e.0) ∷ [])) len (source_more m f precede known sources (expression_view e.0) at) in
    let r = sources_all m f precede rest (known ++ source_of m f known p (expression_view e.0) ∷ []) (p + 1)
    (length_more known (source_of m f known p (expression_view e.0)) ∙ ap (λ z. z + 1) len) (stands_after f.expressions p e rest stands) more in
    (r.0, r.1 ∙ plus_more p (length rest))

none_known : (m : PlainModule) (f : PlainFunction) → SourcesKnown m f []
none_known m f e lt = absurd (omega (arith, lt))

pub are_sources : (m : PlainModule) (f : PlainFunction) (entries : List (Expression × Span)) → f.expressions ≡ map expression_view (values_of entries) → UsesPrecede f.expressions → AreSources m f (sources_of m f [] (handles_from 0 entries))
are_sources m f entries is precede =
    let stands : OccursFrom f.expressions 0 entries = λ i. ap (slice_get f.expressions) (zero_plus i) ∙ ap (λ z. slice_get z i) is in
    let r = sources_all m f precede entries [] 0 refl stands (none_known m f) in
    let len : length (sources_of m f [] (handles_from 0 entries)) ≡ length f.expressions = r.1 ∙ (zero_plus (length entries) ∙ (sym (length_views entries) ∙ ap length (sym is))) in
    record { len = len; each = λ e lt. r.0 e (subst (λ z. e < z) (sym len) lt) }

-- ---- access chains

abbrev StartsKnown : List PlainExpression → List (Option ℕ) → Type 0
StartsKnown xs known = (e g : ℕ) → e < length known → (known_at known e ≡ Some g) ↔ StartsAt xs e g

-- the root of the access chain of e
abbrev StartsBy : List PlainExpression → (e g : ℕ) → Type 0
StartsBy xs e g =
    (slice_get xs e ≡ Some (plain (x.GlobalVariable g)))
    ⊎ (((base : ℕ) × (index : ℕ) × (slice_get xs e ≡ Some (plain (x.Access base index))) × StartsAt xs base g)
    ⊎ ((base : ℕ) × (index : ℕ) × (slice_get xs e ≡ Some (plain (x.AccessIndex base index))) × StartsAt xs base g))

starts_cases : (xs : List PlainExpression) (e g : ℕ) → StartsAt xs e g → StartsBy xs e g
starts_cases xs e g (is_global at) = inl at
starts_cases xs e g (accessed base index at starts) = inr (inl (base, index, at, starts))
starts_cases xs e g (accessed_index base index at starts) = inr (inr (base, index, at, starts))

no_start : (xs : List PlainExpression) (e g : ℕ) (y : PlainExpression) → slice_get xs e ≡ Some y → (y ≡ plain (x.GlobalVariable g) → ⊥) → ((base index : ℕ) → y ≡ plain (x.Access base index) → ⊥) → ((base index : ℕ) → y ≡ plain (x.AccessIndex base index) → ⊥) → StartsAt xs e g → ⊥
no_start xs e g y at a b c starts = elim (starts_cases xs e g starts) [
  | inl h ↦ a (same_Some _ _ (sym at ∙ h))
  | inr h ↦ elim h [ inl (base, index, is, s) ↦ b base index (same_Some _ _ (sym at ∙ is)) | inr (base, index, is, s) ↦ c base index (same_Some _ _ (sym at ∙ is)) ]
]

base_of : (b i c j : ℕ) → plain (x.Access b i) ≡ plain (x.Access c j) → b ≡ c
base_of b i c j e = cc (e)

base_of_index : (b i c j : ℕ) → plain (x.AccessIndex b i) ≡ plain (x.AccessIndex c j) → b ≡ c
base_of_index b i c j e = cc (e)

global_of : (g h : ℕ) → plain (x.GlobalVariable g) ≡ plain (x.GlobalVariable h) → g ≡ h
global_of g h e = cc (e)

one_start : (xs : List PlainExpression) (known : List (Option ℕ)) (precede : UsesPrecede xs) (starts : StartsKnown xs known) (y : PlainExpression) (g : ℕ) → slice_get xs (length known) ≡ Some y → (start_of known y ≡ Some g) ↔ StartsAt xs (length known) g
one_start xs known precede starts (plain (x.GlobalVariable h)) g at = (
  λ e. is_global (at ∙ ap (λ z. Some (plain (x.GlobalVariable z))) (same_Some _ _ e)),
  λ s. elim (starts_cases xs (length known) g s) [
    | inl is ↦ ap (λ z. Some z) (global_of h g (same_Some _ _ (sym at ∙ is)))
    | inr r ↦ elim r [ inl (base, index, is, t) ↦ absurd (let q = same_Some _ _ (sym at ∙ is) in cc (q)) | inr (base, index, is, t) ↦ absurd (let q = same_Some _ _ (sym at ∙ is) in cc (q)) ]
  ],
)
one_start xs known precede starts (plain (x.Access b i)) g at =
    let below : b < length known = precede (length known) (plain (x.Access b i)) (operand Base b) at (inl refl) in (
      λ e. accessed b i at ((starts b g below).0 e),
      λ s. elim (starts_cases xs (length known) g s) [
        | inl is ↦ absurd (let q = same_Some _ _ (sym at ∙ is) in cc (q))
        | inr r ↦ elim r [
          | inl (base, index, is, t) ↦ (starts b g below).1 (subst (λ z. StartsAt xs z g) (sym (base_of b i base index (same_Some _ _ (sym at ∙ is)))) t)
          | inr (base, index, is, t) ↦ absurd (let q = same_Some _ _ (sym at ∙ is) in cc (q))
        ]
      ],
    )
one_start xs known precede starts (plain (x.AccessIndex b i)) g at =
    let below : b < length known = precede (length known) (plain (x.AccessIndex b i)) (operand Base b) at (inl refl) in (
      λ e. accessed_index b i at ((starts b g below).0 e),
      λ s. elim (starts_cases xs (length known) g s) [
        | inl is ↦ absurd (let q = same_Some _ _ (sym at ∙ is) in cc (q))
        | inr r ↦ elim r [
          | inl (base, index, is, t) ↦ absurd (let q = same_Some _ _ (sym at ∙ is) in cc (q))
          | inr (base, index, is, t) ↦ (starts b g below).1 (subst (λ z. StartsAt xs z g) (sym (base_of_index b i base index (same_Some _ _ (sym at ∙ is)))) t)
        ]
      ],
    )
one_start xs known precede starts y g at = (
  λ e. none_some e,
  λ s. absurd (no_start xs (length known) g y at (λ e. cc (e)) (λ base index e. cc (e)) (λ base index e. cc (e)) s),
)

start_more : (xs : List PlainExpression) (known : List (Option ℕ)) (precede : UsesPrecede xs) (starts : StartsKnown xs known) (y : PlainExpression) → slice_get xs (length known) ≡ Some y → StartsKnown xs (known ++ start_of known y ∷ [])
start_more xs known precede starts y at e g lt = elim (cases_lt e (length known)) [
  | inl before ↦ subst (λ z. (z ≡ Some g) ↔ StartsAt xs e g) (sym (known_before known (start_of known y) e before)) (starts e g before)
  | inr past ↦
      (let longer : e < length known + 1 = subst (λ z. e < z) (length_more known (start_of known y)) lt in
      let same : length known ≡ e = omega (arith, longer, past) in
      subst (λ z. (known_at (known ++ start_of known y ∷ []) z ≡ Some g) ↔ StartsAt xs z g) same
      (subst (λ z. (z ≡ Some g) ↔ StartsAt xs (length known) g) (sym (known_last known (start_of known y))) (one_start xs known precede starts y g at)))
]

starts_all : (xs : List PlainExpression) → UsesPrecede xs → (entries : List (Expression × Span)) (known : List (Option ℕ)) (p : ℕ) → length known ≡ p → OccursFrom xs p entries → StartsKnown xs known
    → StartsKnown xs (starts_of known (handles_from p entries)) × (length (starts_of known (handles_from p entries)) ≡ p + length entries)
starts_all xs precede [] known p len stands starts = (starts, len ∙ plus_zero p)
starts_all xs precede (e ∷ rest) known p len stands starts =
    let at : slice_get xs (length known) ≡ Some (expression_view e.0) = ap (slice_get xs) len ∙ stands_here xs p e rest stands in
    let r = starts_all xs precede rest (known ++ start_of known (expression_view e.0) ∷ []) (p + 1)
    (length_more known (start_of known (expression_view e.0)) ∙ ap (λ z. z + 1) len) (stands_after xs p e rest stands) (start_more xs known precede starts (expression_view e.0) at) in
    (r.0, r.1 ∙ plus_more p (length rest))

no_start_known : (xs : List PlainExpression) → StartsKnown xs []
no_start_known xs e g lt = absurd (omega (arith, lt))

starts_past : (xs : List PlainExpression) (e g : ℕ) → slice_get xs e ≡ None → StartsAt xs e g → ⊥
starts_past xs e g none s = elim (starts_cases xs e g s) [
  | inl is ↦ none_some (sym none ∙ is)
  | inr r ↦ elim r [ inl (base, index, is, t) ↦ none_some (sym none ∙ is) | inr (base, index, is, t) ↦ none_some (sym none ∙ is) ]
]

pub are_starts : (entries : List (Expression × Span)) → UsesPrecede (map expression_view (values_of entries)) → AreStarts (map expression_view (values_of entries)) (starts_of [] (handles_from 0 entries))
are_starts entries precede e g =
    let xs = map expression_view (values_of entries) in
    let all = starts_of [] (handles_from 0 entries) in
    let stands : OccursFrom xs 0 entries = λ i. ap (slice_get xs) (zero_plus i) in
    let r = starts_all xs precede entries [] 0 refl stands (no_start_known xs) in
    let len : length all ≡ length xs = r.1 ∙ (zero_plus (length entries) ∙ sym (length_views entries)) in
    elim (cases_lt e (length all)) [
      | inl lt ↦ r.0 e g lt
      | inr past ↦ (
        λ h. none_some (sym (ap inner_of (get_past all e past)) ∙ h),
        λ s. absurd (starts_past xs e g (get_past xs e (subst (λ z. z ≤ e) len past)) s),
      )
    ]

pub starts_length : (entries : List (Expression × Span)) → UsesPrecede (map expression_view (values_of entries)) → length (starts_of [] (handles_from 0 entries)) ≡ length (map expression_view (values_of entries))
starts_length entries precede =
    let xs = map expression_view (values_of entries) in
    (starts_all xs precede entries [] 0 refl (λ i. ap (slice_get xs) (zero_plus i)) (no_start_known xs)).1 ∙ (zero_plus (length entries) ∙ sym (length_views entries))
