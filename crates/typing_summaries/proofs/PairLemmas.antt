-- The pairs after all effects, and the operands at fault.
use Rattle.std.proofs.Common.{◌≡◌, ◌⊎◌, ℕ, Option, Some, None, Bool, true, false, true≢false, ◌||◌, List, [], ◌∷◌, ◌++◌, refl, sym, ap, ◌∙◌, subst, inl, inr}
use Rattle.std.specs.Prelude.{◌↔◌, if◌then◌else◌}
use Rattle.std.specs.List.{list_any}
use Rattle.std.proofs.lemmas.Option.{same_Some}
use Rattle.indexmap.specs.IndexSet.{insert_key}
use Rattle.typing_rules.specs.judged.Laws.{IsAmong}
use Rattle.ir_types.specs.judged.ExpressionPlain.{PlainExpression}
use Rattle.spec_expressions.specs.declared.sampling.GlobalOrArgument.{GlobalOrArgument}
use Rattle.spec_expressions.specs.declared.sampling.GlobalOrArgument.TheVariants.{Global, Argument}
use Rattle.spec_expressions.specs.judged.Pairs.{SamplingPair, pair_eq}
use Rattle.typing_infos.proofs.Equal.{pair_same}
use Rattle.spec_expressions.specs.judged.CallChains.{global_or_argument, seen_through}
use Rattle.spec_expressions.specs.found.Arguments.{argument_means}
use Rattle.spec_expressions.specs.judged.Summaries.{ComesUp, IsWrongArgument}
use Rattle.spec_expressions.proofs.Members.{among-left, among-right, among-cases}
use Rattle.typing_summaries.specs.Tallies.{Paired, with_wrong, first_wrong, part_wrong, pair_one, passed_for, pass_up, pass_all_up}

pub none_some : {X : Type 0} {A : Type 0} {x : X} → None ≡ Some x → A
none_some e = absurd (cc (e))

-- ---- one more pair

at_head : (p q : SamplingPair) (ps : List SamplingPair) (b : Bool) → pair_eq p q ≡ b → (list_any (pair_eq p) ps ≡ true → IsAmong p ps) → (b || list_any (pair_eq p) ps) ≡ true → (q ≡ p) ⊎ IsAmong p ps
at_head p q ps true is after h = inl (sym (pair_same p q is))
at_head p q ps false is after h = inr (after h)

any_among : (p : SamplingPair) (ps : List SamplingPair) → list_any (pair_eq p) ps ≡ true → IsAmong p ps
any_among p [] e = absurd (true≢false (sym e))
any_among p (q ∷ ps) e = at_head p q ps (pair_eq p q) refl (any_among p ps) e

kept_or_added : (b : Bool) (ps : List SamplingPair) (q p : SamplingPair) → (b ≡ true → IsAmong q ps) → IsAmong p (if b then ps else ps ++ q ∷ []) ↔ (IsAmong p ps ⊎ (q ≡ p))
kept_or_added true ps q p there = (λ h. inl h, λ s. elim s [ inl l ↦ l | inr e ↦ subst (λ z. IsAmong z ps) e (there refl) ])
kept_or_added false ps q p there = (
  λ h. elim (among-cases ps (q ∷ []) p h) [ inl l ↦ inl l | inr r ↦ elim r [ inl e ↦ inr e | inr n ↦ elim n [ ] ] ],
  λ s. elim s [ inl l ↦ among-left ps (q ∷ []) p l | inr e ↦ among-right ps (q ∷ []) p (inl e) ],
)

inserted : (ps : List SamplingPair) (q p : SamplingPair) → IsAmong p (insert_key pair_eq ps q) ↔ (IsAmong p ps ⊎ (q ≡ p))
inserted ps q p = kept_or_added (list_any (pair_eq q) ps) ps q p (any_among q ps)

-- an image and a sampler denote the parts of p
abbrev pub Means : Option GlobalOrArgument → Option GlobalOrArgument → SamplingPair → Type 0
Means a b p = (a ≡ Some p.0) × (b ≡ Some p.1)

part_pairs : (w : Option ℕ) (b : Option GlobalOrArgument) (t : Paired) → (part_wrong w b t).pairs ≡ t.pairs
part_pairs w None t = refl
part_pairs w (Some b) t = refl

pub paired_one : (wi ws : Option ℕ) (a b : Option GlobalOrArgument) (t : Paired) (p : SamplingPair) → IsAmong p (pair_one wi ws a b t).pairs ↔ (IsAmong p t.pairs ⊎ Means a b p)
paired_one wi ws (Some a) (Some b) t p =
    let i = inserted t.pairs (a, b) p in (
      λ h. elim (i.0 h) [ inl l ↦ inl l | inr e ↦ inr (ap (λ z. Some z.0) e, ap (λ z. Some z.1) e) ],
      λ s. i.1 (elim s [ inl l ↦ inl l | inr m ↦ inr (let u = same_Some _ _ m.0 in let v = same_Some _ _ m.1 in λ i. (u i, v i)) ]),
    )
paired_one wi ws (Some a) None t p = (λ h. inl h, λ s. elim s [ inl l ↦ l | inr m ↦ none_some m.1 ])
paired_one wi ws None b t p =
    let e = part_pairs ws b (with_wrong wi t) in
    (λ h. inl (subst (IsAmong p) e h), λ s. subst (IsAmong p) (sym e) (elim s [ inl l ↦ l | inr m ↦ none_some m.0 ]))

-- some pair of a callee is p in the caller
abbrev pub SomeComesUp : List PlainExpression → List ℕ → List SamplingPair → SamplingPair → Type 0
SomeComesUp expressions arguments qs p = (q : SamplingPair) × IsAmong q qs × ComesUp expressions arguments q p

pub passed_pairs : (expressions : List PlainExpression) (arguments : List ℕ) (qs : List SamplingPair) (t : Paired) (p : SamplingPair) → IsAmong p (pass_all_up expressions arguments qs t).pairs ↔ (IsAmong p t.pairs ⊎ SomeComesUp expressions arguments qs p)
passed_pairs expressions arguments [] t p = (λ h. inl h, λ s. elim s [ inl l ↦ l | inr c ↦ elim c.1 [ ] ])
passed_pairs expressions arguments (q ∷ qs) t p =
    let rest = passed_pairs expressions arguments qs (pass_up expressions arguments q t) p in
    let one = paired_one (passed_for arguments q.0) (passed_for arguments q.1) (seen_through (global_or_argument expressions) arguments (Some q.0)) (seen_through (global_or_argument expressions) arguments (Some q.1)) t p in (
      λ h. elim (rest.0 h) [
        | inl l ↦ elim (one.0 l) [ inl a ↦ inl a | inr m ↦ inr (q, inl refl, record { image = m.0; sampler = m.1 }) ]
        | inr c ↦ inr (c.0, inr c.1, c.2)
      ],
      λ s. rest.1 (elim s [
        | inl l ↦ inl (one.1 (inl l))
        | inr c ↦ elim c.1 [
          | inl e ↦ inl (one.1 (inr (subst (λ z. Means (seen_through (global_or_argument expressions) arguments (Some z.0)) (seen_through (global_or_argument expressions) arguments (Some z.1)) p) (sym e) (c.2.image, c.2.sampler))))
          | inr h ↦ inr (c.0, h, c.2)
        ]
      ]),
    )

-- ---- operands at fault

-- there is a fault, and it is this
abbrev pub IsSome : Option ℕ → Type 0
IsSome o = (e : ℕ) × (o ≡ Some e)

wrong_here : (o w : Option ℕ) (e : ℕ) → first_wrong o w ≡ Some e → (o ≡ Some e) ⊎ (w ≡ Some e)
wrong_here (Some x) w e h = inl h
wrong_here None w e h = inr h

wrong_stays : (o w : Option ℕ) → IsSome o → IsSome (first_wrong o w)
wrong_stays (Some x) w h = h
wrong_stays None w h = none_some h.1

wrong_comes : (o w : Option ℕ) → IsSome w → IsSome (first_wrong o w)
wrong_comes (Some x) w h = (x, refl)
wrong_comes None w h = h

-- an operand at an index is at fault if it denotes nothing
abbrev pub WrongPart : Option ℕ → Option GlobalOrArgument → ℕ → Type 0
WrongPart w a e = (w ≡ Some e) × (a ≡ None)

abbrev pub WrongPair : (wi ws : Option ℕ) (a b : Option GlobalOrArgument) → ℕ → Type 0
WrongPair wi ws a b e = WrongPart wi a e ⊎ WrongPart ws b e

part_here : (w : Option ℕ) (b : Option GlobalOrArgument) (t : Paired) (e : ℕ) → (part_wrong w b t).wrong ≡ Some e → (t.wrong ≡ Some e) ⊎ WrongPart w b e
part_here w None t e h = elim (wrong_here t.wrong w e h) [ inl l ↦ inl l | inr r ↦ inr (r, refl) ]
part_here w (Some b) t e h = inl h

pub pair_here : (wi ws : Option ℕ) (a b : Option GlobalOrArgument) (t : Paired) (e : ℕ) → (pair_one wi ws a b t).wrong ≡ Some e → (t.wrong ≡ Some e) ⊎ WrongPair wi ws a b e
pair_here wi ws (Some a) (Some b) t e h = inl h
pair_here wi ws (Some a) None t e h = elim (wrong_here t.wrong ws e h) [ inl l ↦ inl l | inr r ↦ inr (inr (r, refl)) ]
pair_here wi ws None b t e h = elim (part_here ws b (with_wrong wi t) e h) [
  | inl l ↦ elim (wrong_here t.wrong wi e l) [ inl m ↦ inl m | inr r ↦ inr (inl (r, refl)) ]
  | inr r ↦ inr (inr r)
]

part_stays : (w : Option ℕ) (b : Option GlobalOrArgument) (t : Paired) → IsSome t.wrong → IsSome (part_wrong w b t).wrong
part_stays w None t h = wrong_stays t.wrong w h
part_stays w (Some b) t h = h

pub pair_stays : (wi ws : Option ℕ) (a b : Option GlobalOrArgument) (t : Paired) → IsSome t.wrong → IsSome (pair_one wi ws a b t).wrong
pair_stays wi ws (Some a) (Some b) t h = h
pair_stays wi ws (Some a) None t h = wrong_stays t.wrong ws h
pair_stays wi ws None b t h = part_stays ws b (with_wrong wi t) (wrong_stays t.wrong wi h)

part_comes : (w : Option ℕ) (b : Option GlobalOrArgument) (t : Paired) (e : ℕ) → WrongPart w b e → IsSome (part_wrong w b t).wrong
part_comes w None t e h = wrong_comes t.wrong w (e, h.0)
part_comes w (Some b) t e h = none_some (sym h.1)

pub pair_comes : (wi ws : Option ℕ) (a b : Option GlobalOrArgument) (t : Paired) (e : ℕ) → WrongPair wi ws a b e → IsSome (pair_one wi ws a b t).wrong
pair_comes wi ws (Some a) (Some b) t e (inl h) = none_some (sym h.1)
pair_comes wi ws (Some a) (Some b) t e (inr h) = none_some (sym h.1)
pair_comes wi ws (Some a) None t e (inl h) = none_some (sym h.1)
pair_comes wi ws (Some a) None t e (inr h) = wrong_comes t.wrong ws (e, h.0)
pair_comes wi ws None b t e (inl h) = part_stays ws b (with_wrong wi t) (wrong_comes t.wrong wi (e, h.0))
pair_comes wi ws None b t e (inr h) = part_comes ws b (with_wrong wi t) e h

-- ---- arguments at fault

argument_wrong : (expressions : List PlainExpression) (arguments : List ℕ) (part : GlobalOrArgument) (e : ℕ) → WrongPart (passed_for arguments part) (seen_through (global_or_argument expressions) arguments (Some part)) e → IsWrongArgument expressions arguments part e
argument_wrong expressions arguments (Global g) e h = none_some h.0
argument_wrong expressions arguments (Argument n) e h = (n, refl, h.0, sym (ap (argument_means (global_or_argument expressions)) h.0) ∙ h.1)

wrong_argument : (expressions : List PlainExpression) (arguments : List ℕ) (part : GlobalOrArgument) (e : ℕ) → IsWrongArgument expressions arguments part e → WrongPart (passed_for arguments part) (seen_through (global_or_argument expressions) arguments (Some part)) e
wrong_argument expressions arguments part e (n, is, at, none) =
    subst (λ z. WrongPart (passed_for arguments z) (seen_through (global_or_argument expressions) arguments (Some z)) e) (sym is) (at, ap (argument_means (global_or_argument expressions)) at ∙ none)

-- an argument that is passed for a part of one of these pairs is at fault
abbrev pub SomeWrong : List PlainExpression → List ℕ → List SamplingPair → ℕ → Type 0
SomeWrong expressions arguments qs e = (q : SamplingPair) × IsAmong q qs × (IsWrongArgument expressions arguments q.0 e ⊎ IsWrongArgument expressions arguments q.1 e)

pub passed_here : (expressions : List PlainExpression) (arguments : List ℕ) (qs : List SamplingPair) (t : Paired) (e : ℕ) → (pass_all_up expressions arguments qs t).wrong ≡ Some e → (t.wrong ≡ Some e) ⊎ SomeWrong expressions arguments qs e
passed_here expressions arguments [] t e h = inl h
passed_here expressions arguments (q ∷ qs) t e h = elim (passed_here expressions arguments qs (pass_up expressions arguments q t) e h) [
  | inl l ↦ elim (pair_here (passed_for arguments q.0) (passed_for arguments q.1) (seen_through (global_or_argument expressions) arguments (Some q.0)) (seen_through (global_or_argument expressions) arguments (Some q.1)) t e l) [
    | inl m ↦ inl m
    | inr w ↦ inr (q, inl refl, elim w [ inl a ↦ inl (argument_wrong expressions arguments q.0 e a) | inr b ↦ inr (argument_wrong expressions arguments q.1 e b) ])
  ]
  | inr c ↦ inr (c.0, inr c.1, c.2)
]

pub passed_stays : (expressions : List PlainExpression) (arguments : List ℕ) (qs : List SamplingPair) (t : Paired) → IsSome t.wrong → IsSome (pass_all_up expressions arguments qs t).wrong
passed_stays expressions arguments [] t h = h
passed_stays expressions arguments (q ∷ qs) t h =
    passed_stays expressions arguments qs (pass_up expressions arguments q t)
    (pair_stays (passed_for arguments q.0) (passed_for arguments q.1) (seen_through (global_or_argument expressions) arguments (Some q.0)) (seen_through (global_or_argument expressions) arguments (Some q.1)) t h)

pub passed_comes : (expressions : List PlainExpression) (arguments : List ℕ) (qs : List SamplingPair) (t : Paired) (e : ℕ) (q : SamplingPair) → IsAmong q qs → IsWrongArgument expressions arguments q.0 e ⊎ IsWrongArgument expressions arguments q.1 e → IsSome (pass_all_up expressions arguments qs t).wrong
passed_comes expressions arguments [] t e q among w = elim among [ ]
passed_comes expressions arguments (r ∷ qs) t e q (inr h) w = passed_comes expressions arguments qs (pass_up expressions arguments r t) e q h w
passed_comes expressions arguments (r ∷ qs) t e q (inl is) w =
    let v : IsWrongArgument expressions arguments r.0 e ⊎ IsWrongArgument expressions arguments r.1 e = subst (λ z. IsWrongArgument expressions arguments z.0 e ⊎ IsWrongArgument expressions arguments z.1 e) (sym is) w in
    passed_stays expressions arguments qs (pass_up expressions arguments r t)
    (pair_comes (passed_for arguments r.0) (passed_for arguments r.1) (seen_through (global_or_argument expressions) arguments (Some r.0)) (seen_through (global_or_argument expressions) arguments (Some r.1)) t e
    (elim v [ inl a ↦ inl (wrong_argument expressions arguments r.0 e a) | inr b ↦ inr (wrong_argument expressions arguments r.1 e b) ]))
