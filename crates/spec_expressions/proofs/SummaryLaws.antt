-- A function's own effects joined with its callees' summaries are its summary over all call chains.
use Rattle.std.proofs.Common.{◌≡◌, ◌≢◌, ◌⊎◌, ℕ, suc, zero, ◌<◌, ◌^◌, Option, Some, None, Bool, true, false, List, [], ◌∷◌, length, refl, ap, sym, subst, ◌∙◌, inl, inr, ⊎_elim, arith, slice_get}
use Rattle.std.specs.Prelude.{◌↔◌, slice_index_or}
use Rattle.std.specs.Int.{bit_at}
use Rattle.std.proofs.lemmas.Bool.{cases_eq}
use Rattle.std.proofs.lemmas.Nat.Bits.{bit_at-pow_other, bit_at-lt}
use Rattle.std.proofs.lemmas.Option.{same_Some}
use Rattle.ir_items.specs.judged.Plain.{PlainFunction, PlainModule}
use Rattle.typing_rules.specs.judged.Laws.{IsAmong}
use Rattle.spec_expressions.specs.declared.global_use.TheConstants.GlobalUse.{QUERY}
use Rattle.spec_expressions.specs.judged.Pairs.{SamplingPair}
use Rattle.spec_expressions.specs.judged.Effects.{Effect, takes, samples, runs, discards, effects_of}
use Rattle.spec_expressions.specs.judged.CallChains.{Step, Calls, Reaches, UsesDirectly, NamesGlobal, IsUnusedFrom, HasUse, HasPair, Discards, MayKill}
use Rattle.spec_expressions.specs.judged.Summaries.{Summary, no_use, HasBit, IsSummary, CallsOne, ComesUp, JoinsUse, IsJoined, CalleesKnown, AreSummaries, CallsBelow, AgreeOnCallees}
use Rattle.spec_expressions.proofs.Members.{among-get, get-among, get-within}
use Rattle.spec_expressions.proofs.ChainLaws.{reaches-from_call, reaches-here, reaches-cases, CalleeReaches, use-from_call, pair-from_call, pair-here, pair-cases, CalleePair}

-- QUERY has exactly one bit
one_bit : (k : ℕ) → bit_at QUERY.0 k ≡ 1 → k ≡ 2
one_bit k e = ⊎_elim (λ same. same) (λ (not : k ≢ 2). absurd (let z : 0 ≡ 1 = sym (bit_at-pow_other 2 k not) ∙ e in omega (arith, z))) (cases_eq k 2)

bit_or_not : (n : ℕ) (k : ℕ) → (bit_at n k ≡ 1) ⊎ (bit_at n k ≡ 1 → ⊥)
bit_or_not n k = cases_eq (bit_at n k) 1

-- ---- one of the calls, or none

record OneCall (summaries : List Summary) (g k : ℕ) (effects : List Effect) : Type 0 where
  callee : ℕ
  arguments : List ℕ
  summary : Summary
  call : IsAmong (runs callee arguments) effects
  found : slice_get summaries callee ≡ Some summary
  bit : HasBit summary g k

abbrev NoCall : List Summary → (g k : ℕ) → List Effect → Type 0
NoCall summaries g k effects = OneCall summaries g k effects → ⊥

later_call : (summaries : List Summary) (g k : ℕ) (x : Effect) (rest : List Effect) → OneCall summaries g k rest → OneCall summaries g k (x ∷ rest)
later_call summaries g k x rest c = record { callee = c.callee; arguments = c.arguments; summary = c.summary; call = inr c.call; found = c.found; bit = c.bit }

not_here : (summaries : List Summary) (g k : ℕ) (x : Effect) (rest : List Effect) → ((callee : ℕ) (arguments : List ℕ) (s : Summary) → x ≡ runs callee arguments → slice_get summaries callee ≡ Some s → HasBit s g k → ⊥) → NoCall summaries g k rest → NoCall summaries g k (x ∷ rest)
not_here summaries g k x rest here after c = elim c.call [
  | inl e ↦ here c.callee c.arguments c.summary e c.found c.bit
  | inr h ↦ after (record { callee = c.callee; arguments = c.arguments; summary = c.summary; call = h; found = c.found; bit = c.bit })
]

either : (summaries : List Summary) (g k : ℕ) (x : Effect) (rest : List Effect) → ((callee : ℕ) (arguments : List ℕ) (s : Summary) → x ≡ runs callee arguments → slice_get summaries callee ≡ Some s → HasBit s g k → ⊥) → OneCall summaries g k rest ⊎ NoCall summaries g k rest → OneCall summaries g k (x ∷ rest) ⊎ NoCall summaries g k (x ∷ rest)
either summaries g k x rest here (inl c) = inl (later_call summaries g k x rest c)
either summaries g k x rest here (inr n) = inr (not_here summaries g k x rest here n)

callee_of : (x y : ℕ) (xs ys : List ℕ) → runs x xs ≡ runs y ys → x ≡ y
callee_of x y xs ys e = cc (e)

find_call : (summaries : List Summary) (g k : ℕ) (effects : List Effect) → OneCall summaries g k effects ⊎ NoCall summaries g k effects
find_call summaries g k [] = inr (λ c. elim c.call [ ])
find_call summaries g k (takes o ∷ rest) = either summaries g k (takes o) rest (λ callee arguments s e found bit. cc (e)) (find_call summaries g k rest)
find_call summaries g k (samples e i s ∷ rest) = either summaries g k (samples e i s) rest (λ callee arguments s e found bit. cc (e)) (find_call summaries g k rest)
find_call summaries g k (discards ∷ rest) = either summaries g k discards rest (λ callee arguments s e found bit. cc (e)) (find_call summaries g k rest)
find_call summaries g k (runs c args ∷ rest) = at_call summaries g k c args rest (slice_get summaries c) refl (find_call summaries g k rest) where
  at_call : (summaries : List Summary) (g k : ℕ) (c : ℕ) (args : List ℕ) (rest : List Effect) (o : Option Summary) → slice_get summaries c ≡ o → OneCall summaries g k rest ⊎ NoCall summaries g k rest → OneCall summaries g k (runs c args ∷ rest) ⊎ NoCall summaries g k (runs c args ∷ rest)
  at_call summaries g k c args rest None is after =
      either summaries g k (runs c args) rest (λ callee arguments s e found bit. let q : c ≡ callee = callee_of c callee args arguments e in let n : None ≡ Some s = sym is ∙ (ap (slice_get summaries) q ∙ found) in cc (n)) after
  at_call summaries g k c args rest (Some t) is after = elim (bit_or_not (slice_index_or t.uses g no_use).0 k) [
    | inl b ↦ inl (record { callee = c; arguments = args; summary = t; call = inl refl; found = is; bit = b })
    | inr n ↦ either summaries g k (runs c args) rest (λ callee arguments s e found bit. let q : c ≡ callee = callee_of c callee args arguments e in let same : t ≡ s = same_Some _ _ (sym is ∙ (ap (slice_get summaries) q ∙ found)) in n (subst (λ u. HasBit u g k) (sym same) bit)) after
  ]

-- ---- between the summaries of callees and their effects

-- the summary of the callee of a step
record Stepped (m : PlainModule) (f : PlainFunction) (summaries : List Summary) (s : Step) : Type 0 where
  summary : Summary
  calls : CallsOne f summaries s.arguments summary
  is : IsSummary m s.function summary

stepped : (m : PlainModule) (f : PlainFunction) (summaries : List Summary) (known : CalleesKnown m f summaries) (s : Step) → Calls m f s → Stepped m f summaries s
stepped m f summaries known s c =
    let call : IsAmong (runs c.callee s.arguments) (effects_of f) = among-get (effects_of f) s.at (runs c.callee s.arguments) c.call in
    let k = known c.callee s.arguments call in
    record {
      summary = k.summary;
      calls = record { callee = c.callee; call = call; found = k.kept };
      is = subst (λ h. IsSummary m h k.summary) (same_Some _ _ (sym k.found ∙ c.found)) k.is;
    }

-- the step of a call, and its summary
record Called (m : PlainModule) (f : PlainFunction) (arguments : List ℕ) (t : Summary) : Type 0 where
  at : ℕ
  function : PlainFunction
  calls : Calls m f (record { at = at; arguments = arguments; function = function })
  is : IsSummary m function t

called : (m : PlainModule) (f : PlainFunction) (summaries : List Summary) (known : CalleesKnown m f summaries) (arguments : List ℕ) (t : Summary) → CallsOne f summaries arguments t → Called m f arguments t
called m f summaries known arguments t c =
    let k = known c.callee arguments c.call in
    let at = get-among (effects_of f) (runs c.callee arguments) c.call in
    record {
      at = at.0;
      function = k.function;
      calls = record { callee = c.callee; call = at.1; found = k.found };
      is = subst (λ u. IsSummary m k.function u) (same_Some _ _ (sym k.kept ∙ c.found)) k.is;
    }

module _ (m : PlainModule) (f : PlainFunction) (summaries : List Summary) (known : CalleesKnown m f summaries) where
  -- a joined use is one over call chains
  use_up : (g k : ℕ) → g < length m.globals → JoinsUse f summaries g k → HasUse m f g k
  use_up g k lt (inl own) = inl (reaches-here m f (UsesDirectly g k) own)
  use_up g k lt (inr (arguments, t, calls, bit)) =
      let c = called m f summaries known arguments t calls in
      use-from_call m f (record { at = c.at; arguments = arguments; function = c.function }) g k c.calls ((c.is.uses g k lt).0 bit)

  -- a direct use over call chains is joined
  direct_down : (g k : ℕ) → g < length m.globals → Reaches m f (UsesDirectly g k) → JoinsUse f summaries g k
  direct_down g k lt r = elim (reaches-cases m f (UsesDirectly g k) r) [
    | inl own ↦ inl own
    | inr c ↦ (let s = stepped m f summaries known c.step c.calls in inr (c.step.arguments, s.summary, s.calls, (s.is.uses g k lt).1 (inl c.reaches)))
  ]

  -- if no function reachable uses it directly, the joined use has only the bit of QUERY
  joined_bit : (g k : ℕ) → g < length m.globals → IsUnusedFrom m g f → JoinsUse f summaries g k → bit_at QUERY.0 k ≡ 1
  joined_bit g k lt unused j = elim (use_up g k lt j) [ inl r ↦ absurd (unused k r) | inr r ↦ r.0 ]

  query_down : (g k : ℕ) → g < length m.globals → bit_at QUERY.0 k ≡ 1 → Reaches m f (λ h. NamesGlobal g h × IsUnusedFrom m g h)
      → JoinsUse f summaries g k ⊎ ((bit_at QUERY.0 k ≡ 1) × NamesGlobal g f × ((j : ℕ) → JoinsUse f summaries g j → ⊥))
  query_down g k lt bit r = elim (reaches-cases m f (λ h. NamesGlobal g h × IsUnusedFrom m g h) r) [
    | inl own ↦ elim (find_call summaries g k (effects_of f)) [
      | inl c ↦ inl (inr (c.arguments, c.summary, record { callee = c.callee; call = c.call; found = c.found }, c.bit))
      | inr none ↦ inr (
        bit,
        own.0,
        λ j joins. elim joins [
          | inl direct ↦ own.1 j (reaches-here m f (UsesDirectly g j) direct)
          | inr c ↦
              (let same : j ≡ k = one_bit j (joined_bit g j lt own.1 (inr c)) ∙ sym (one_bit k bit) in
              none (record { callee = c.2.callee; arguments = c.0; summary = c.1; call = c.2.call; found = c.2.found; bit = subst (λ z. HasBit c.1 g z) same c.3 }))
        ],
      )
    ]
    | inr c ↦ (let s = stepped m f summaries known c.step c.calls in inl (inr (c.step.arguments, s.summary, s.calls, (s.is.uses g k lt).1 (inr (bit, c.reaches)))))
  ]

  query_up : (g k : ℕ) → g < length m.globals → bit_at QUERY.0 k ≡ 1 → NamesGlobal g f → ((j : ℕ) → JoinsUse f summaries g j → ⊥) → HasUse m f g k
  query_up g k lt bit names none = inr (bit, reaches-here m f (λ h. NamesGlobal g h × IsUnusedFrom m g h) (names, λ j r. none j (direct_down g j lt r)))

  pair_up : (p : SamplingPair) (arguments : List ℕ) (t : Summary) (q : SamplingPair) → CallsOne f summaries arguments t → IsAmong q t.pairs → ComesUp f.expressions arguments q p → HasPair m f p
  pair_up p arguments t q calls among up =
      let c = called m f summaries known arguments t calls in
      pair-from_call m f (record { at = c.at; arguments = arguments; function = c.function }) q p c.calls ((c.is.pairs q).0 among) up

  kill_up : (arguments : List ℕ) (t : Summary) → CallsOne f summaries arguments t → t.may_kill ≡ true → MayKill m f
  kill_up arguments t calls kills =
      let c = called m f summaries known arguments t calls in
      reaches-from_call m f Discards (record { at = c.at; arguments = arguments; function = c.function }) c.calls (c.is.may_kill.0 kills)

  pub summary_of_joined : (s : Summary) → IsJoined (length m.globals) f summaries s → IsSummary m f s
  summary_of_joined s j = record {
    uses = λ g k lt. (
      λ h. elim ((j.uses g k lt).0 h) [ inl joins ↦ use_up g k lt joins | inr q ↦ query_up g k lt q.0 q.1 q.2 ],
      λ u. (j.uses g k lt).1 (elim u [ inl r ↦ inl (direct_down g k lt r) | inr r ↦ query_down g k lt r.0 r.1 ]),
    );
    pairs = λ p. (
      λ h. elim ((j.pairs p).0 h) [ inl own ↦ pair-here m f p own | inr c ↦ pair_up p c.0 c.1 c.2 c.3 c.4 c.5 ],
      λ h. (j.pairs p).1 (elim (pair-cases m f p h) [
        | inl own ↦ inl own
        | inr c ↦ (let t = stepped m f summaries known c.step c.calls in inr (c.step.arguments, t.summary, c.pair, t.calls, (t.is.pairs c.pair).1 c.below, c.gives))
      ]),
    );
    may_kill = (
      λ h. elim (j.may_kill.0 h) [ inl own ↦ reaches-here m f Discards own | inr c ↦ kill_up c.0 c.1 c.2 c.3 ],
      λ h. j.may_kill.1 (elim (reaches-cases m f Discards h) [
        | inl own ↦ inl own
        | inr c ↦ (let t = stepped m f summaries known c.step c.calls in inr (c.step.arguments, t.summary, t.calls, t.is.may_kill.1 c.reaches))
      ]),
    );
  }

-- ---- only the summaries of callees matter

module _ (f : PlainFunction) (summaries others : List Summary) (agree : AgreeOnCallees f summaries others) where
  one_there : (arguments : List ℕ) (t : Summary) → CallsOne f summaries arguments t → CallsOne f others arguments t
  one_there arguments t c = record { callee = c.callee; call = c.call; found = sym (agree c.callee arguments c.call) ∙ c.found }

  one_back : (arguments : List ℕ) (t : Summary) → CallsOne f others arguments t → CallsOne f summaries arguments t
  one_back arguments t c = record { callee = c.callee; call = c.call; found = agree c.callee arguments c.call ∙ c.found }

  use_there : (g k : ℕ) → JoinsUse f summaries g k → JoinsUse f others g k
  use_there g k (inl own) = inl own
  use_there g k (inr (arguments, t, calls, bit)) = inr (arguments, t, one_there arguments t calls, bit)

  use_back : (g k : ℕ) → JoinsUse f others g k → JoinsUse f summaries g k
  use_back g k (inl own) = inl own
  use_back g k (inr (arguments, t, calls, bit)) = inr (arguments, t, one_back arguments t calls, bit)

  pub joined_by_callees : (globals : ℕ) (s : Summary) → IsJoined globals f summaries s → IsJoined globals f others s
  joined_by_callees globals s j = record {
    uses = λ g k lt. (
      λ h. elim ((j.uses g k lt).0 h) [ inl u ↦ inl (use_there g k u) | inr q ↦ inr (q.0, q.1, λ i u. q.2 i (use_back g i u)) ],
      λ u. (j.uses g k lt).1 (elim u [ inl u ↦ inl (use_back g k u) | inr q ↦ inr (q.0, q.1, λ i u. q.2 i (use_there g i u)) ]),
    );
    pairs = λ p. (
      λ h. elim ((j.pairs p).0 h) [ inl own ↦ inl own | inr c ↦ inr (c.0, c.1, c.2, one_there c.0 c.1 c.3, c.4, c.5) ],
      λ u. (j.pairs p).1 (elim u [ inl own ↦ inl own | inr c ↦ inr (c.0, c.1, c.2, one_back c.0 c.1 c.3, c.4, c.5) ]),
    );
    may_kill = (
      λ h. elim (j.may_kill.0 h) [ inl own ↦ inl own | inr c ↦ inr (c.0, c.1, one_there c.0 c.1 c.2, c.3) ],
      λ u. j.may_kill.1 (elim u [ inl own ↦ inl own | inr c ↦ inr (c.0, c.1, one_back c.0 c.1 c.2, c.3) ]),
    );
  }

pub callees_known : (m : PlainModule) (f : PlainFunction) (summaries : List Summary) → AreSummaries m summaries → CallsBelow f (length summaries) → CallsBelow f (length m.functions) → CalleesKnown m f summaries
callees_known m f summaries are below within callee arguments call =
    let h = get-within m.functions callee (within callee arguments call) in
    let t = get-within summaries callee (below callee arguments call) in
    record { function = h.0; found = h.1; summary = t.0; kept = t.1; is = are callee h.0 t.0 h.1 t.1 }
