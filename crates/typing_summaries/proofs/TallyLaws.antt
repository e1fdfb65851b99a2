-- The tally of a function satisfies its definition.
use Rattle.std.proofs.Common.{◌≡◌, ◌≢◌, ◌⊎◌, ℕ, zero, suc, ◌+◌, ◌-◌, ◌^◌, ◌<◌, ◌≤◌, min, Option, Some, None, Bool, true, false, IsTrue, List, [], ◌∷◌, ◌++◌, length, replicate, refl, sym, ap, ◌∙◌, subst, inl, inr, ⊎_elim, arith, slice_get, get_or, eqb}
use Rattle.std.specs.Prelude.{◌↔◌, ◌==◌, slice_index_or}
use Rattle.std.specs.Int.{bit_at}
use Rattle.std.proofs.lemmas.Bool.{cases_eq, eqb-true, ne_eqb, eq-eqb}
use Rattle.std.proofs.lemmas.List.{get_or-replicate, length-replicate}
use Rattle.std.proofs.lemmas.Option.{same_Some}
use Rattle.typing_rules.specs.judged.Laws.{IsAmong}
use Rattle.ir_types.specs.judged.ExpressionPlain.{PlainExpression, plain}
use Rattle.ir_types.specs.declared.expressions.Expression.TheVariants as x
use Rattle.ir_items.specs.judged.Plain.{PlainFunction}
use Rattle.spec_expressions.specs.declared.global_use.GlobalUse.{GlobalUse}
use Rattle.spec_expressions.specs.declared.global_use.TheConstants.GlobalUse.{QUERY}
use Rattle.spec_expressions.specs.judged.Pairs.{SamplingPair}
use Rattle.spec_expressions.specs.judged.Effects.{takes, samples, runs, discards, expressions_effects, effects_in, effects_of, places_of}
use Rattle.spec_expressions.specs.judged.Values.{AreStarts}
use Rattle.spec_expressions.specs.judged.CallChains.{global_or_argument, NamesGlobal, Samples, Discards}
use Rattle.spec_expressions.specs.judged.Summaries.{Summary, no_use, HasUseBit, CallsOne, ComesUp, JoinsUse, IsFormFault}
use Rattle.typing_summaries.specs.Tallies.{Known, Tallied, queried, name_one, name_all, nothing_tallied, expressions_done, done_in, named, whole_tally}
use Rattle.typing_summaries.specs.Tallied.{IsTally}
use Rattle.typing_summaries.proofs.Effects.{do_all, do_append, do_expressions, do_in}
use Rattle.typing_infos.proofs.UseBits.{zero_has_none, marked_length, one_use, marked_same, marked_other}
use Rattle.typing_summaries.proofs.UseLemmas.{some_bit}
use Rattle.typing_summaries.proofs.PairLemmas.{IsSome, SomeComesUp, SomeWrong, WrongPair}
use Rattle.typing_summaries.proofs.SumLemmas.{Given, uses_length, GivesUse, uses_after, longer_after, GivesPair, pairs_after, GivesKill, kills_after, GivesWrong, wrong_after, wrong_comes, counts_after, counts_length}

-- ---- global variables referred to

-- one of these expressions is the global variable
abbrev NamedIn : ℕ → List PlainExpression → Type 0
NamedIn g xs = (e : ℕ) × (slice_get xs e ≡ Some (plain (x.GlobalVariable g)))

-- the global variable has no use
abbrev IsUnused : ℕ → List GlobalUse → Type 0
IsUnused g uses = (slice_index_or uses g no_use).0 ≡ 0

-- how these expressions change the use of g
record Named (xs : List PlainExpression) (g k : ℕ) (uses more : List GlobalUse) : Type 0 where
  longer : length more ≡ length uses
  to : HasUseBit more g k → HasUseBit uses g k ⊎ ((bit_at QUERY.0 k ≡ 1) × NamedIn g xs × IsUnused g uses)
  stays : HasUseBit uses g k → HasUseBit more g k
  comes : bit_at QUERY.0 k ≡ 1 → NamedIn g xs → IsUnused g uses → HasUseBit more g k

queried_length : (b : Bool) (uses : List GlobalUse) (h : ℕ) → length (queried b uses h) ≡ length uses
queried_length true uses h = marked_length uses (Some h) QUERY.0
queried_length false uses h = refl

-- a use that is not empty is unchanged
used_stays : (uses : List GlobalUse) (h g : ℕ) (b : Bool) → ((slice_index_or uses h no_use).0 == 0) ≡ b → (IsUnused g uses → ⊥) → slice_index_or (queried b uses h) g no_use ≡ slice_index_or uses g no_use
used_stays uses h g false is used = refl
used_stays uses h g true is used =
    marked_other uses h g QUERY.0 (λ same. used (subst (λ z. IsUnused z uses) same (eqb-true (slice_index_or uses h no_use).0 0 is)))

name_none : (xs : List PlainExpression) (y : PlainExpression) (g : ℕ) → (y ≡ plain (x.GlobalVariable g) → ⊥) → NamedIn g (y ∷ xs) → NamedIn g xs
name_none xs y g not (zero, e) = absurd (not (same_Some _ _ e))
name_none xs y g not (suc i, e) = (i, e)

later_name : (xs : List PlainExpression) (y : PlainExpression) (g : ℕ) → NamedIn g xs → NamedIn g (y ∷ xs)
later_name xs y g n = (suc n.0, n.1)

queried_to : (b : Bool) (uses : List GlobalUse) (h g k : ℕ) → g < length uses → ((slice_index_or uses h no_use).0 == 0) ≡ b → HasUseBit (queried b uses h) g k → HasUseBit uses g k ⊎ ((bit_at QUERY.0 k ≡ 1) × (h ≡ g) × IsUnused g uses)
queried_to false uses h g k lt is e = inl e
queried_to true uses h g k lt is e = elim ((one_use uses (Some h) QUERY.0 g k lt).0 e) [
  | inl l ↦ inl l
  | inr r ↦ (let same : h ≡ g = same_Some _ _ r.0 in inr (r.1, same, subst (λ z. IsUnused z uses) same (eqb-true (slice_index_or uses h no_use).0 0 is)))
]

queried_stays : (b : Bool) (uses : List GlobalUse) (h g k : ℕ) → g < length uses → HasUseBit uses g k → HasUseBit (queried b uses h) g k
queried_stays false uses h g k lt e = e
queried_stays true uses h g k lt e = (one_use uses (Some h) QUERY.0 g k lt).1 (inl e)

queried_comes : (b : Bool) (uses : List GlobalUse) (g k : ℕ) → g < length uses → ((slice_index_or uses g no_use).0 == 0) ≡ b → IsUnused g uses → bit_at QUERY.0 k ≡ 1 → HasUseBit (queried b uses g) g k
queried_comes true uses g k lt is unused q = (one_use uses (Some g) QUERY.0 g k lt).1 (inr (refl, q))
queried_comes false uses g k lt is unused q = absurd (let z : true ≡ false = sym (eq-eqb (slice_index_or uses g no_use).0 0 unused) ∙ is in cc (z))

queried_other : (b : Bool) (uses : List GlobalUse) (h g : ℕ) → h ≢ g → IsUnused g uses → IsUnused g (queried b uses h)
queried_other false uses h g not u = u
queried_other true uses h g not u = ap (λ z. z.0) (marked_other uses h g QUERY.0 not) ∙ u

other_global : (h g : ℕ) → h ≢ g → plain (x.GlobalVariable h) ≡ plain (x.GlobalVariable g) → ⊥
other_global h g not e = not (cc (e))

named_global : (h : ℕ) (rest : List PlainExpression) (g k : ℕ) (uses more : List GlobalUse) → g < length uses
    → Named rest g k (name_one (plain (x.GlobalVariable h)) uses) more → Named (plain (x.GlobalVariable h) ∷ rest) g k uses more
named_global h rest g k uses more lt r =
    let b = (slice_index_or uses h no_use).0 == 0 in
    record {
      longer = r.longer ∙ queried_length b uses h;
      to = λ e. elim (r.to e) [
        | inl l ↦ elim (queried_to b uses h g k lt refl l) [
          | inl m ↦ inl m
          | inr q ↦ inr (q.0, (zero, ap (λ z. Some (plain (x.GlobalVariable z))) q.1), q.2)
        ]
        | inr q ↦ elim (cases_eq (slice_index_or uses g no_use).0 0) [
          | inl unused ↦ inr (q.0, later_name rest (plain (x.GlobalVariable h)) g q.1, unused)
          | inr used ↦ absurd (used (sym (ap (λ z. z.0) (used_stays uses h g b refl used)) ∙ q.2))
        ]
      ];
      stays = λ e. r.stays (queried_stays b uses h g k lt e);
      comes = λ q n unused. elim (cases_eq h g) [
        | inl same ↦ r.stays (subst (λ z. HasUseBit (queried ((slice_index_or uses z no_use).0 == 0) uses z) g k) (sym same) (queried_comes ((slice_index_or uses g no_use).0 == 0) uses g k lt refl unused q))
        | inr not ↦ r.comes q (name_none rest (plain (x.GlobalVariable h)) g (other_global h g not) n) (queried_other b uses h g not unused)
      ];
    }

named_other : (y : PlainExpression) (rest : List PlainExpression) (g k : ℕ) (uses more : List GlobalUse) → (y ≡ plain (x.GlobalVariable g) → ⊥) → Named rest g k uses more → Named (y ∷ rest) g k uses more
named_other y rest g k uses more not r = record {
  longer = r.longer;
  to = λ e. elim (r.to e) [ inl l ↦ inl l | inr q ↦ inr (q.0, later_name rest y g q.1, q.2) ];
  stays = r.stays;
  comes = λ q n unused. r.comes q (name_none rest y g not n) unused;
}

named_all : (xs : List PlainExpression) (uses : List GlobalUse) (g k : ℕ) → g < length uses → Named xs g k uses (name_all xs uses)
named_all [] uses g k lt = record { longer = refl; to = λ e. inl e; stays = λ e. e; comes = λ q n unused. absurd (let e = n.1 in cc (e)) }
named_all (plain (x.GlobalVariable h) ∷ rest) uses g k lt =
    named_global h rest g k uses (name_all rest (name_one (plain (x.GlobalVariable h)) uses)) lt
    (named_all rest (name_one (plain (x.GlobalVariable h)) uses) g k (subst (λ z. g < z) (sym (queried_length ((slice_index_or uses h no_use).0 == 0) uses h)) lt))
named_all (y ∷ rest) uses g k lt = named_other y rest g k uses (name_all rest uses) (λ e. cc (e)) (named_all rest uses g k lt)

named_length : (xs : List PlainExpression) (uses : List GlobalUse) → length (name_all xs uses) ≡ length uses
named_length [] uses = refl
named_length (plain (x.GlobalVariable h) ∷ rest) uses = named_length rest (name_one (plain (x.GlobalVariable h)) uses) ∙ queried_length ((slice_index_or uses h no_use).0 == 0) uses h
named_length (y ∷ rest) uses = named_length rest uses

plus_none : (n : ℕ) → 0 + n ≡ n
plus_none n = omega arith

-- ---- whole tallies

module _ (f : PlainFunction) (globals : List (Option ℕ)) (summaries : List Summary) (n : ℕ) (starts : AreStarts f.expressions globals) where
  abbrev pub known_of : Known
  known_of = record { expressions = f.expressions; globals = globals; summaries = summaries }

  abbrev pub begin : Tallied
  begin = nothing_tallied (length f.expressions) n

  abbrev pub done : Tallied
  done = do_all known_of (effects_of f) begin

  none_yet : (g k : ℕ) → g < n → HasUseBit (replicate n no_use) g k → ⊥
  none_yet g k lt h = zero_has_none k (subst (λ z. bit_at z.0 k ≡ 1) (get_or-replicate n g no_use no_use lt) h)

  uses_joined : (g k : ℕ) → Given (GivesUse known_of g k) (effects_of f) → JoinsUse f summaries g k
  uses_joined g k (takes o, among, (at, bit)) = inl (record { operand = o; taken = among; starts = (starts o.handle g).0 at; bit = bit })
  uses_joined g k (samples e i s, among, n) = elim n [ ]
  uses_joined g k (runs callee arguments, among, (s, found, bit)) = inr (arguments, s, record { callee = callee; call = among; found = found }, bit)
  uses_joined g k (discards, among, n) = elim n [ ]

  joined_uses : (g k : ℕ) → JoinsUse f summaries g k → Given (GivesUse known_of g k) (effects_of f)
  joined_uses g k (inl u) = (takes u.operand, u.taken, ((starts u.operand.handle g).1 u.starts, u.bit))
  joined_uses g k (inr (arguments, s, c, bit)) = (runs c.callee arguments, c.call, (s, c.found, bit))

  begin_longer : (g : ℕ) → g < n → g < length begin.counted.uses
  begin_longer g lt = subst (λ z. g < z) (sym (length-replicate n no_use)) lt

  bit_joins : (g k : ℕ) → g < n → HasUseBit done.counted.uses g k → JoinsUse f summaries g k
  bit_joins g k lt h = elim ((uses_after known_of g k (effects_of f) begin (begin_longer g lt)).0 h) [ inl l ↦ absurd (none_yet g k lt l) | inr r ↦ uses_joined g k r ]

  joins_bit : (g k : ℕ) → g < n → JoinsUse f summaries g k → HasUseBit done.counted.uses g k
  joins_bit g k lt j = (uses_after known_of g k (effects_of f) begin (begin_longer g lt)).1 (inr (joined_uses g k j))

  joined_all : (g k : ℕ) → g < n → HasUseBit (name_all f.expressions done.counted.uses) g k ↔ (JoinsUse f summaries g k ⊎ ((bit_at QUERY.0 k ≡ 1) × NamesGlobal g f × ((j : ℕ) → JoinsUse f summaries g j → ⊥)))
  joined_all g k lt =
      let N = named_all f.expressions done.counted.uses g k (longer_after known_of g (effects_of f) begin (begin_longer g lt)) in (
        λ h. elim (N.to h) [
          | inl l ↦ inl (bit_joins g k lt l)
          | inr q ↦ inr (q.0, q.1, λ j u. zero_has_none j (subst (λ z. bit_at z j ≡ 1) q.2 (joins_bit g j lt u)))
        ],
        λ s. elim s [
          | inl j ↦ N.stays (joins_bit g k lt j)
          | inr q ↦ N.comes q.0 q.1 (elim (some_bit (slice_index_or done.counted.uses g no_use).0) [ inl z ↦ z | inr b ↦ absurd (q.2 b.0 (bit_joins g b.0 lt b.1)) ])
        ],
      )

  pairs_joined : (p : SamplingPair) → Given (GivesPair known_of p) (effects_of f) → Samples (global_or_argument f.expressions) f p ⊎ ((arguments : List ℕ) × (t : Summary) × (q : SamplingPair) × CallsOne f summaries arguments t × IsAmong q t.pairs × ComesUp f.expressions arguments q p)
  pairs_joined p (takes o, among, n) = elim n [ ]
  pairs_joined p (samples e i s, among, m) = inl (record { expression = e; image = i; sampler = s; sampling = among; image_means = m.0; sampler_means = m.1 })
  pairs_joined p (runs callee arguments, among, (s, found, c)) = inr (arguments, s, c.0, record { callee = callee; call = among; found = found }, c.1, c.2)
  pairs_joined p (discards, among, n) = elim n [ ]

  joined_pairs : (p : SamplingPair) → Samples (global_or_argument f.expressions) f p ⊎ ((arguments : List ℕ) × (t : Summary) × (q : SamplingPair) × CallsOne f summaries arguments t × IsAmong q t.pairs × ComesUp f.expressions arguments q p) → Given (GivesPair known_of p) (effects_of f)
  joined_pairs p (inl s) = (samples s.expression s.image s.sampler, s.sampling, (s.image_means, s.sampler_means))
  joined_pairs p (inr (arguments, t, q, c, among, up)) = (runs c.callee arguments, c.call, (t, c.found, (q, among, up)))

  kills_joined : Given (GivesKill known_of) (effects_of f) → Discards f ⊎ ((arguments : List ℕ) × (t : Summary) × CallsOne f summaries arguments t × IsTrue t.may_kill)
  kills_joined (takes o, among, n) = elim n [ ]
  kills_joined (samples e i s, among, n) = elim n [ ]
  kills_joined (runs callee arguments, among, (s, found, k)) = inr (arguments, s, record { callee = callee; call = among; found = found }, k)
  kills_joined (discards, among, u) = inl among

  joined_kills : Discards f ⊎ ((arguments : List ℕ) × (t : Summary) × CallsOne f summaries arguments t × IsTrue t.may_kill) → Given (GivesKill known_of) (effects_of f)
  joined_kills (inl d) = (discards, d, tt)
  joined_kills (inr (arguments, t, c, k)) = (runs c.callee arguments, c.call, (t, c.found, k))

  wrong_form : (e : ℕ) → Given (GivesWrong known_of e) (effects_of f) → IsFormFault f summaries e
  wrong_form e (takes o, among, n) = elim n [ ]
  wrong_form e (samples at i s, among, w) = elim w [
    | inl a ↦ inl (i, s, subst (λ z. IsAmong (samples z i s) (effects_of f)) (same_Some _ _ a.0) among, inl a.1)
    | inr b ↦ inl (i, s, subst (λ z. IsAmong (samples z i s) (effects_of f)) (same_Some _ _ b.0) among, inr b.1)
  ]
  wrong_form e (runs callee arguments, among, (s, found, w)) = inr (arguments, s, w.0, record { callee = callee; call = among; found = found }, w.1, w.2)
  wrong_form e (discards, among, n) = elim n [ ]

  form_wrong : (e : ℕ) → IsFormFault f summaries e → Given (GivesWrong known_of e) (effects_of f)
  form_wrong e (inl (i, s, among, w)) = (samples e i s, among, elim w [ inl a ↦ inl (refl, a) | inr b ↦ inr (refl, b) ])
  form_wrong e (inr (arguments, t, q, c, among, w)) = (runs c.callee arguments, c.call, (t, c.found, (q, among, w)))

  is_done : IsTally n f summaries (named known_of done)
  is_done = record {
    joined = record {
      uses = joined_all;
      pairs = λ p. (
        λ h. elim ((pairs_after known_of p (effects_of f) begin).0 h) [ inl l ↦ elim l [ ] | inr r ↦ pairs_joined p r ],
        λ s. (pairs_after known_of p (effects_of f) begin).1 (inr (joined_pairs p s)),
      );
      may_kill = (
        λ h. elim ((kills_after known_of (effects_of f) begin).0 h) [ inl l ↦ absurd (cc (l)) | inr r ↦ kills_joined r ],
        λ s. (kills_after known_of (effects_of f) begin).1 (inr (joined_kills s)),
      );
    };
    uses = named_length f.expressions done.counted.uses ∙ uses_length known_of (effects_of f) begin ∙ length-replicate n no_use;
    places = counts_length known_of (effects_of f) begin ∙ length-replicate (length f.expressions) 0;
    counts = λ e lt. counts_after known_of (effects_of f) begin e 0 (subst (λ z. e < z) (sym (length-replicate (length f.expressions) 0)) lt) (get_or-replicate (length f.expressions) e 0 0 lt) ∙ ap (λ z. min z (2 ^ 64 - 1)) (plus_none (places_of e (effects_of f)));
    wrong = λ e h. elim (wrong_after known_of e (effects_of f) begin h) [ inl l ↦ absurd (cc (l)) | inr g ↦ wrong_form e g ];
    clear = λ none e w. (let s = wrong_comes known_of e (effects_of f) begin (form_wrong e w) in let q : None ≡ Some s.0 = sym none ∙ s.1 in cc (q));
  }

  pub tally_is : IsTally n f summaries (whole_tally known_of (length f.expressions) n f.body)
  tally_is =
      let same : done ≡ done_in known_of f.body (expressions_done known_of 0 f.expressions begin) =
      do_append known_of (expressions_effects 0 f.expressions) (effects_in f.body) begin
      ∙ (ap (do_all known_of (effects_in f.body)) (do_expressions known_of 0 f.expressions begin) ∙ do_in known_of f.body (expressions_done known_of 0 f.expressions begin)) in
      subst (λ z. IsTally n f summaries (named known_of z)) same is_done
