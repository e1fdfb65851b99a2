-- The tally after all effects, by what each of them contributes.
use Rattle.std.proofs.Common.{◌≡◌, ◌⊎◌, ℕ, ◌+◌, ◌-◌, ◌^◌, ◌<◌, ◌≤◌, min, Option, Some, None, Bool, true, false, ◌||◌, IsTrue, List, [], ◌∷◌, length, refl, sym, ap, ◌∙◌, subst, inl, inr, ⊎_elim, arith, slice_get, get_or, length-set, add-zero, add_assoc, eq-eqb}
use Rattle.std.specs.Prelude.{◌↔◌, ◌==◌, if◌then◌else◌, slice_index}
use Rattle.std.specs.Int.{bit_at}
use Rattle.std.proofs.lemmas.Bool.{cases_eq, ne_eqb}
use Rattle.std.proofs.lemmas.List.{get_or-set_same, get_or-set_other}
use Rattle.std.proofs.lemmas.Option.{same_Some}
use Rattle.typing_rules.specs.judged.Laws.{IsAmong}
use Rattle.spec_expressions.specs.judged.Pairs.{SamplingPair}
use Rattle.spec_expressions.specs.judged.Effects.{Effect, takes, samples, runs, discards, places_of}
use Rattle.spec_expressions.specs.judged.CallChains.{global_or_argument}
use Rattle.spec_expressions.specs.judged.Values.{known_at}
use Rattle.spec_expressions.specs.judged.Summaries.{Summary, HasUseBit, HasBit}
use Rattle.typing_summaries.specs.Tallies.{Known, Tallied, bumped, join_summary}
use Rattle.typing_summaries.proofs.Effects.{do_one, do_all}
use Rattle.typing_infos.proofs.UseBits.{one_use, marked_length}
use Rattle.typing_summaries.proofs.UseLemmas.{merge_bits, merge_length}
use Rattle.typing_summaries.proofs.PairLemmas.{Means, paired_one, SomeComesUp, passed_pairs, IsSome, WrongPair, pair_here, pair_stays, pair_comes, SomeWrong, passed_here, passed_stays, passed_comes}

-- one of the effects contributes it
abbrev pub Given : (Effect → Type 0) → List Effect → Type 0
Given G effects = (x : Effect) × IsAmong x effects × G x

-- a property that holds after each effect iff it held before or the effect contributes it, holds after all iff it held
-- at the beginning or one of them contributes it
module _ (k : Known) (Q : Tallied → Type 0) (G : Effect → Type 0) (OK : Tallied → Type 0)
    (keeps : (x : Effect) (t : Tallied) → OK t → OK (do_one k x t))
    (step : (x : Effect) (t : Tallied) → OK t → Q (do_one k x t) ↔ (Q t ⊎ G x)) where
  pub after_all : (effects : List Effect) (t : Tallied) → OK t → Q (do_all k effects t) ↔ (Q t ⊎ Given G effects)
  after_all [] t ok = (λ q. inl q, λ s. elim s [ inl q ↦ q | inr g ↦ elim g.1 [ ] ])
  after_all (x ∷ rest) t ok =
      let r = after_all rest (do_one k x t) (keeps x t ok) in
      let o = step x t ok in (
        λ q. elim (r.0 q) [
          | inl h ↦ elim (o.0 h) [ inl a ↦ inl a | inr b ↦ inr (x, inl refl, b) ]
          | inr g ↦ inr (g.0, inr g.1, g.2)
        ],
        λ s. r.1 (elim s [
          | inl q ↦ inl (o.1 (inl q))
          | inr g ↦ elim g.1 [ inl e ↦ inl (o.1 (inr (subst G (sym e) g.2))) | inr h ↦ inr (g.0, h, g.2) ]
        ]),
      )

-- ---- uses

abbrev pub GivesUse : Known → (g b : ℕ) → Effect → Type 0
GivesUse k g b (takes o) = (known_at k.globals o.handle ≡ Some g) × (bit_at o.use_bits b ≡ 1)
GivesUse k g b (samples e image sampler) = ⊥
GivesUse k g b (runs function arguments) = (s : Summary) × (slice_get k.summaries function ≡ Some s) × HasBit s g b
GivesUse k g b discards = ⊥

abbrev Longer : ℕ → Tallied → Type 0
Longer g t = g < length t.counted.uses

abbrev HasIt : (g b : ℕ) → Tallied → Type 0
HasIt g b t = HasUseBit t.counted.uses g b

joined_longer : (k : Known) (arguments : List ℕ) (o : Option Summary) (g : ℕ) (t : Tallied) → Longer g t → Longer g (join_summary k arguments o t)
joined_longer k arguments None g t lt = lt
joined_longer k arguments (Some s) g t lt = subst (λ z. g < z) (sym (merge_length t.counted.uses s.uses)) lt

longer_one : (k : Known) (g : ℕ) (x : Effect) (t : Tallied) → Longer g t → Longer g (do_one k x t)
longer_one k g (takes o) t lt = subst (λ z. g < z) (sym (marked_length t.counted.uses (known_at k.globals o.handle) o.use_bits)) lt
longer_one k g (samples e image sampler) t lt = lt
longer_one k g (runs function arguments) t lt = joined_longer k arguments (slice_get k.summaries function) g t lt
longer_one k g discards t lt = lt

no_gift : {A : Type 0} → A → A ↔ (A ⊎ ⊥)
no_gift a = (λ h. inl h, λ s. a)

same_side : {A : Type 0} → A ↔ (A ⊎ ⊥)
same_side = (λ h. inl h, λ s. elim s [ inl a ↦ a | inr n ↦ elim n [ ] ])

joined_use_of : (k : Known) (g b : ℕ) (arguments : List ℕ) (o : Option Summary) (t : Tallied) → Longer g t → HasIt g b (join_summary k arguments o t) ↔ (HasIt g b t ⊎ ((s : Summary) × (o ≡ Some s) × HasBit s g b))
joined_use_of k g b arguments None t lt = (λ h. inl h, λ s. elim s [ inl a ↦ a | inr n ↦ absurd (let q = n.1 in cc (q)) ])
joined_use_of k g b arguments (Some s) t lt =
    let m = merge_bits t.counted.uses s.uses g b lt in (
      λ h. elim (m.0 h) [ inl a ↦ inl a | inr c ↦ inr (s, refl, c) ],
      λ h. m.1 (elim h [ inl a ↦ inl a | inr c ↦ inr (subst (λ z. HasBit z g b) (sym (same_Some _ _ c.1)) c.2) ]),
    )

use_one : (k : Known) (g b : ℕ) (x : Effect) (t : Tallied) → Longer g t → HasIt g b (do_one k x t) ↔ (HasIt g b t ⊎ GivesUse k g b x)
use_one k g b (takes o) t lt = one_use t.counted.uses (known_at k.globals o.handle) o.use_bits g b lt
use_one k g b (samples e image sampler) t lt = same_side
use_one k g b (runs function arguments) t lt = joined_use_of k g b arguments (slice_get k.summaries function) t lt
use_one k g b discards t lt = same_side

pub uses_after : (k : Known) (g b : ℕ) (effects : List Effect) (t : Tallied) → g < length t.counted.uses → HasUseBit (do_all k effects t).counted.uses g b ↔ (HasUseBit t.counted.uses g b ⊎ Given (GivesUse k g b) effects)
uses_after k g b effects t lt = after_all k (HasIt g b) (GivesUse k g b) (Longer g) (longer_one k g) (use_one k g b) effects t lt

pub longer_after : (k : Known) (g : ℕ) (effects : List Effect) (t : Tallied) → g < length t.counted.uses → g < length (do_all k effects t).counted.uses
longer_after k g [] t lt = lt
longer_after k g (x ∷ rest) t lt = longer_after k g rest (do_one k x t) (longer_one k g x t lt)

-- ---- pairs

abbrev pub GivesPair : Known → SamplingPair → Effect → Type 0
GivesPair k p (takes o) = ⊥
GivesPair k p (samples e image sampler) = Means (global_or_argument k.expressions image) (global_or_argument k.expressions sampler) p
GivesPair k p (runs function arguments) = (s : Summary) × (slice_get k.summaries function ≡ Some s) × SomeComesUp k.expressions arguments s.pairs p
GivesPair k p discards = ⊥

abbrev Anything : Tallied → Type 0
Anything t = Unit {0}

abbrev HasPairIn : SamplingPair → Tallied → Type 0
HasPairIn p t = IsAmong p t.paired.pairs

joined_pair_of : (k : Known) (p : SamplingPair) (arguments : List ℕ) (o : Option Summary) (t : Tallied) → HasPairIn p (join_summary k arguments o t) ↔ (HasPairIn p t ⊎ ((s : Summary) × (o ≡ Some s) × SomeComesUp k.expressions arguments s.pairs p))
joined_pair_of k p arguments None t = (λ h. inl h, λ s. elim s [ inl a ↦ a | inr n ↦ absurd (let q = n.1 in cc (q)) ])
joined_pair_of k p arguments (Some s) t =
    let m = passed_pairs k.expressions arguments s.pairs t.paired p in (
      λ h. elim (m.0 h) [ inl a ↦ inl a | inr c ↦ inr (s, refl, c) ],
      λ h. m.1 (elim h [ inl a ↦ inl a | inr c ↦ inr (subst (λ z. SomeComesUp k.expressions arguments z.pairs p) (sym (same_Some _ _ c.1)) c.2) ]),
    )

pair_step : (k : Known) (p : SamplingPair) (x : Effect) (t : Tallied) → Anything t → HasPairIn p (do_one k x t) ↔ (HasPairIn p t ⊎ GivesPair k p x)
pair_step k p (takes o) t ok = same_side
pair_step k p (samples e image sampler) t ok = paired_one (Some e) (Some e) (global_or_argument k.expressions image) (global_or_argument k.expressions sampler) t.paired p
pair_step k p (runs function arguments) t ok = joined_pair_of k p arguments (slice_get k.summaries function) t
pair_step k p discards t ok = same_side

pub pairs_after : (k : Known) (p : SamplingPair) (effects : List Effect) (t : Tallied) → IsAmong p (do_all k effects t).paired.pairs ↔ (IsAmong p t.paired.pairs ⊎ Given (GivesPair k p) effects)
pairs_after k p effects t = after_all k (HasPairIn p) (GivesPair k p) Anything (λ x t ok. tt) (pair_step k p) effects t tt

-- ---- discards

abbrev pub GivesKill : Known → Effect → Type 0
GivesKill k (takes o) = ⊥
GivesKill k (samples e image sampler) = ⊥
GivesKill k (runs function arguments) = (s : Summary) × (slice_get k.summaries function ≡ Some s) × (s.may_kill ≡ true)
GivesKill k discards = Unit {0}

abbrev MayKillIn : Tallied → Type 0
MayKillIn t = t.may_kill ≡ true

or_true : (a b : Bool) → (a || b) ≡ true → (a ≡ true) ⊎ (b ≡ true)
or_true true b e = inl refl
or_true false b e = inr e

true_or : (a b : Bool) → (a ≡ true) ⊎ (b ≡ true) → (a || b) ≡ true
true_or true b s = refl
true_or false b (inl e) = absurd (cc (e))
true_or false b (inr e) = e

joined_kill_of : (k : Known) (arguments : List ℕ) (o : Option Summary) (t : Tallied) → MayKillIn (join_summary k arguments o t) ↔ (MayKillIn t ⊎ ((s : Summary) × (o ≡ Some s) × (s.may_kill ≡ true)))
joined_kill_of k arguments None t = (λ h. inl h, λ s. elim s [ inl a ↦ a | inr n ↦ absurd (let q = n.1 in cc (q)) ])
joined_kill_of k arguments (Some s) t = (
  λ h. elim (or_true t.may_kill s.may_kill h) [ inl a ↦ inl a | inr b ↦ inr (s, refl, b) ],
  λ h. true_or t.may_kill s.may_kill (elim h [ inl a ↦ inl a | inr c ↦ inr (subst (λ z. z.may_kill ≡ true) (sym (same_Some _ _ c.1)) c.2) ]),
)

kill_step : (k : Known) (x : Effect) (t : Tallied) → Anything t → MayKillIn (do_one k x t) ↔ (MayKillIn t ⊎ GivesKill k x)
kill_step k (takes o) t ok = same_side
kill_step k (samples e image sampler) t ok = same_side
kill_step k (runs function arguments) t ok = joined_kill_of k arguments (slice_get k.summaries function) t
kill_step k discards t ok = (λ h. inr tt, λ s. refl)

pub kills_after : (k : Known) (effects : List Effect) (t : Tallied) → ((do_all k effects t).may_kill ≡ true) ↔ ((t.may_kill ≡ true) ⊎ Given (GivesKill k) effects)
kills_after k effects t = after_all k MayKillIn (GivesKill k) Anything (λ x t ok. tt) (kill_step k) effects t tt

-- ---- operands at fault

abbrev pub GivesWrong : Known → ℕ → Effect → Type 0
GivesWrong k e (takes o) = ⊥
GivesWrong k e (samples at image sampler) = WrongPair (Some at) (Some at) (global_or_argument k.expressions image) (global_or_argument k.expressions sampler) e
GivesWrong k e (runs function arguments) = (s : Summary) × (slice_get k.summaries function ≡ Some s) × SomeWrong k.expressions arguments s.pairs e
GivesWrong k e discards = ⊥

joined_here : (k : Known) (arguments : List ℕ) (o : Option Summary) (t : Tallied) (e : ℕ) → (join_summary k arguments o t).paired.wrong ≡ Some e → (t.paired.wrong ≡ Some e) ⊎ ((s : Summary) × (o ≡ Some s) × SomeWrong k.expressions arguments s.pairs e)
joined_here k arguments None t e h = inl h
joined_here k arguments (Some s) t e h = elim (passed_here k.expressions arguments s.pairs t.paired e h) [ inl a ↦ inl a | inr c ↦ inr (s, refl, c) ]

here_one : (k : Known) (e : ℕ) (x : Effect) (t : Tallied) → (do_one k x t).paired.wrong ≡ Some e → (t.paired.wrong ≡ Some e) ⊎ GivesWrong k e x
here_one k e (takes o) t h = inl h
here_one k e (samples at image sampler) t h = pair_here (Some at) (Some at) (global_or_argument k.expressions image) (global_or_argument k.expressions sampler) t.paired e h
here_one k e (runs function arguments) t h = joined_here k arguments (slice_get k.summaries function) t e h
here_one k e discards t h = inl h

pub wrong_after : (k : Known) (e : ℕ) (effects : List Effect) (t : Tallied) → (do_all k effects t).paired.wrong ≡ Some e → (t.paired.wrong ≡ Some e) ⊎ Given (GivesWrong k e) effects
wrong_after k e [] t h = inl h
wrong_after k e (x ∷ rest) t h = elim (wrong_after k e rest (do_one k x t) h) [
  | inl l ↦ elim (here_one k e x t l) [ inl a ↦ inl a | inr b ↦ inr (x, inl refl, b) ]
  | inr g ↦ inr (g.0, inr g.1, g.2)
]

joined_stays : (k : Known) (arguments : List ℕ) (o : Option Summary) (t : Tallied) → IsSome t.paired.wrong → IsSome (join_summary k arguments o t).paired.wrong
joined_stays k arguments None t h = h
joined_stays k arguments (Some s) t h = passed_stays k.expressions arguments s.pairs t.paired h

stays_one : (k : Known) (x : Effect) (t : Tallied) → IsSome t.paired.wrong → IsSome (do_one k x t).paired.wrong
stays_one k (takes o) t h = h
stays_one k (samples at image sampler) t h = pair_stays (Some at) (Some at) (global_or_argument k.expressions image) (global_or_argument k.expressions sampler) t.paired h
stays_one k (runs function arguments) t h = joined_stays k arguments (slice_get k.summaries function) t h
stays_one k discards t h = h

stays_after : (k : Known) (effects : List Effect) (t : Tallied) → IsSome t.paired.wrong → IsSome (do_all k effects t).paired.wrong
stays_after k [] t h = h
stays_after k (x ∷ rest) t h = stays_after k rest (do_one k x t) (stays_one k x t h)

joined_comes : (k : Known) (arguments : List ℕ) (o : Option Summary) (t : Tallied) (e : ℕ) (s : Summary) → o ≡ Some s → SomeWrong k.expressions arguments s.pairs e → IsSome (join_summary k arguments o t).paired.wrong
joined_comes k arguments None t e s is w = absurd (cc (is))
joined_comes k arguments (Some u) t e s is w =
    let v : SomeWrong k.expressions arguments u.pairs e = subst (λ z. SomeWrong k.expressions arguments z.pairs e) (sym (same_Some _ _ is)) w in
    passed_comes k.expressions arguments u.pairs t.paired e v.0 v.1 v.2

comes_one : (k : Known) (e : ℕ) (x : Effect) (t : Tallied) → GivesWrong k e x → IsSome (do_one k x t).paired.wrong
comes_one k e (takes o) t g = elim g [ ]
comes_one k e (samples at image sampler) t g = pair_comes (Some at) (Some at) (global_or_argument k.expressions image) (global_or_argument k.expressions sampler) t.paired e g
comes_one k e (runs function arguments) t g = joined_comes k arguments (slice_get k.summaries function) t e g.0 g.1 g.2
comes_one k e discards t g = elim g [ ]

pub wrong_comes : (k : Known) (e : ℕ) (effects : List Effect) (t : Tallied) → Given (GivesWrong k e) effects → IsSome (do_all k effects t).paired.wrong
wrong_comes k e [] t g = elim g.1 [ ]
wrong_comes k e (x ∷ rest) t g = elim g.1 [
  | inl is ↦ stays_after k rest (do_one k x t) (comes_one k e x t (subst (GivesWrong k e) (sym is) g.2))
  | inr h ↦ wrong_comes k e rest (do_one k x t) (g.0, h, g.2)
]

-- ---- counts

keep : (x m : ℕ) → x ≤ m → x ≡ min (x + 0) m
keep x m le = omega arith

min_min : (n x m : ℕ) → min (min n m + x) m ≡ min (n + x) m
min_min n x m = omega arith

min_le : (n m : ℕ) → min n m ≤ m
min_le n m = omega arith

one_count : (counts : List ℕ) (h e : ℕ) → e < length counts → get_or counts e 0 ≤ 2 ^ 64 - 1 → get_or (bumped counts h) e 0 ≡ min (get_or counts e 0 + (if h == e then 1 else 0)) (2 ^ 64 - 1)
one_count counts h e lt fits =
    ⊎_elim
    (λ (same : h ≡ e).
    ap (λ z. get_or (bumped counts z) e 0) same
    ∙ get_or-set_same counts e (min (get_or counts e 0 + 1) (2 ^ 64 - 1)) 0 lt
    ∙ ap (λ b. min (get_or counts e 0 + (if b then 1 else 0)) (2 ^ 64 - 1)) (sym (eq-eqb h e same)))
    (λ (not : h ≡ e → ⊥).
    get_or-set_other counts h e (min (get_or counts h 0 + 1) (2 ^ 64 - 1)) 0 (λ q. not (sym q))
    ∙ keep (get_or counts e 0) (2 ^ 64 - 1) fits
    ∙ ap (λ b. min (get_or counts e 0 + (if b then 1 else 0)) (2 ^ 64 - 1)) (sym (ne_eqb h e not)))
    (cases_eq h e)

joined_counts : (k : Known) (arguments : List ℕ) (o : Option Summary) (t : Tallied) → (join_summary k arguments o t).counted.counts ≡ t.counted.counts
joined_counts k arguments None t = refl
joined_counts k arguments (Some s) t = refl

pub counts_after : (k : Known) (effects : List Effect) (t : Tallied) (e n : ℕ) → e < length t.counted.counts → get_or t.counted.counts e 0 ≡ min n (2 ^ 64 - 1) → get_or (do_all k effects t).counted.counts e 0 ≡ min (n + places_of e effects) (2 ^ 64 - 1)
counts_after k [] t e n lt is = is ∙ ap (λ z. min z (2 ^ 64 - 1)) (sym (add-zero n))
counts_after k (takes o ∷ rest) t e n lt is =
    let x = (if o.handle == e then 1 else 0) in
    let longer : e < length (bumped t.counted.counts o.handle) = subst (λ z. e < z) (sym (length-set t.counted.counts o.handle _)) lt in
    let fits : get_or t.counted.counts e 0 ≤ 2 ^ 64 - 1 = subst (λ z. z ≤ 2 ^ 64 - 1) (sym is) (min_le n (2 ^ 64 - 1)) in
    let one = one_count t.counted.counts o.handle e lt fits ∙ ap (λ z. min (z + x) (2 ^ 64 - 1)) is ∙ min_min n x (2 ^ 64 - 1) in
    counts_after k rest (do_one k (takes o) t) e (n + x) longer one ∙ ap (λ z. min z (2 ^ 64 - 1)) (add_assoc n x (places_of e rest))
counts_after k (samples at image sampler ∷ rest) t e n lt is = counts_after k rest (do_one k (samples at image sampler) t) e n lt is
counts_after k (runs function arguments ∷ rest) t e n lt is =
    let same = joined_counts k arguments (slice_get k.summaries function) t in
    counts_after k rest (do_one k (runs function arguments) t) e n (subst (λ z. e < length z) (sym same) lt) (ap (λ z. get_or z e 0) same ∙ is)
counts_after k (discards ∷ rest) t e n lt is = counts_after k rest (do_one k discards t) e n lt is

pub counts_length : (k : Known) (effects : List Effect) (t : Tallied) → length (do_all k effects t).counted.counts ≡ length t.counted.counts
counts_length k [] t = refl
counts_length k (takes o ∷ rest) t = counts_length k rest (do_one k (takes o) t) ∙ length-set t.counted.counts o.handle _
counts_length k (samples at image sampler ∷ rest) t = counts_length k rest (do_one k (samples at image sampler) t)
counts_length k (runs function arguments ∷ rest) t = counts_length k rest (do_one k (runs function arguments) t) ∙ ap (λ z. length z) (joined_counts k arguments (slice_get k.summaries function) t)
counts_length k (discards ∷ rest) t = counts_length k rest (do_one k discards t)

joined_uses_length : (k : Known) (arguments : List ℕ) (o : Option Summary) (t : Tallied) → length (join_summary k arguments o t).counted.uses ≡ length t.counted.uses
joined_uses_length k arguments None t = refl
joined_uses_length k arguments (Some s) t = merge_length t.counted.uses s.uses

pub uses_length : (k : Known) (effects : List Effect) (t : Tallied) → length (do_all k effects t).counted.uses ≡ length t.counted.uses
uses_length k [] t = refl
uses_length k (takes o ∷ rest) t = uses_length k rest (do_one k (takes o) t) ∙ marked_length t.counted.uses (known_at k.globals o.handle) o.use_bits
uses_length k (samples at image sampler ∷ rest) t = uses_length k rest (do_one k (samples at image sampler) t)
uses_length k (runs function arguments ∷ rest) t = uses_length k rest (do_one k (runs function arguments) t) ∙ joined_uses_length k arguments (slice_get k.summaries function) t
uses_length k (discards ∷ rest) t = uses_length k rest (do_one k discards t)
