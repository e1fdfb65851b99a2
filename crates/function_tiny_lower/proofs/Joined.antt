-- A function that the layer types is joined of its own statements and of its callees'.
use Rattle.std.proofs.Common.{◌≡◌, ◌+◌, ◌⊎◌, ◌||◌, ℕ, zero, suc, Bool, true, false, if◌then◌else◌, Option, Some, None, IsTrue, List, [], ◌∷◌, length, map, slice_get, refl, sym, ap, subst, ◌∙◌, inl, inr, arith}
use Rattle.std.proofs.lemmas.List.Folds.{list_any-append}
use Rattle.std.specs.List.{list_any}
use Rattle.std.specs.Option.{is_some}
use Rattle.spec_expressions.specs.declared.global_use.GlobalUse.{GlobalUse}
use Rattle.ir_blocks.specs.judged.Plain.{PlainStatement, emit, block, if_, switch, loop, break, continue, return, kill, operation, call, PlainBlock}
use Rattle.ir_types.specs.judged.ExpressionPlain.{PlainExpression, plain}
use Rattle.ir_types.specs.declared.expressions.Expression.TheVariants as x
use Rattle.ir_items.specs.judged.Plain.{PlainFunction, PlainModule}
use Rattle.typing_references.proofs.FirstLaws.{place_found}
use Rattle.typing_references.specs.First.{first_in}
use Rattle.typing_rules.specs.judged.Laws.{IsAmong}
use Rattle.spec_expressions.proofs.Members.{among-cases}
use Rattle.spec_expressions.specs.judged.CallChains.{Discards}
use Rattle.spec_expressions.specs.judged.Effects.{Effect, takes, samples, runs, discards, sampling_at, expression_effects, expressions_effects, leaving_effects, effects_in, effects_of}
use Rattle.spec_expressions.specs.judged.OperandUses.{Operand, expression_uses}
use Rattle.spec_expressions.specs.judged.Summaries.{Summary, CallsOne, IsJoined}
use Rattle.function_tiny_lower.proofs.Effects.{any_among, among_any, none_in_expressions, found_in}
use Rattle.function_tiny_lower.proofs.Typed.{typed_somewhere}
use Rattle.function_tiny_lower.specs.Ends.{summary_of, may_end, ends_in}
use Rattle.function_tiny_lower.specs.Typing.{expression_type, IsUntyped}
use Rattle.function_tiny_lower.specs.declared.tiny.TinyInfo.{TinyInfo}
use Rattle.function_tiny_lower.specs.declared.value_type.ValueType.{ValueType}

-- ---- nothing is sampled

abbrev is_sampling : Effect → Bool
is_sampling (takes operand) = false
is_sampling (samples e image sampler) = true
is_sampling (runs callee arguments) = false
is_sampling discards = false

abbrev nothing : PlainStatement → Option (Unit {0})
nothing s = None

none_leaving : (s : PlainStatement) → list_any is_sampling (leaving_effects s) ≡ is_some (nothing s)
none_leaving (emit first end) = refl
none_leaving (block b) = refl
none_leaving (if_ test accept reject) = refl
none_leaving (switch selector cases) = refl
none_leaving (loop body continuing break_if) = refl
none_leaving break = refl
none_leaving continue = refl
none_leaving (return value) = refl
none_leaving kill = refl
none_leaving (operation a) = refl
none_leaving (call function arguments result) = refl

none_some : {A : Type 0} (o : Option A) → ((y : A) → o ≡ Some y → ⊥) → is_some o ≡ true → ⊥
none_some None none is = let h = is in cc
none_some (Some y) none is = none y refl

in_no_body : (b : PlainBlock) (e image sampler : ℕ) → IsAmong (samples e image sampler) (effects_in b) → ⊥
in_no_body b e image sampler among =
    none_some (first_in nothing b) (λ y is. let found = place_found nothing b y is in let h = found.3 in cc)
    (sym (found_in is_sampling (λ o. refl) nothing none_leaving b) ∙ any_among is_sampling (effects_in b) (samples e image sampler) among refl)

not_an_operand : (os : List Operand) (e image sampler : ℕ) → IsAmong (samples e image sampler) (map takes os) → ⊥
not_an_operand [] e image sampler among = elim among [ ]
not_an_operand (o ∷ os) e image sampler (inl same) = let h = same in cc
not_an_operand (o ∷ os) e image sampler (inr among) = not_an_operand os e image sampler among

-- an expression that has no type
abbrev HasNone : PlainExpression → Type 0
HasNone expression = (m : PlainModule) (f : PlainFunction) (past : List (Option ValueType)) → expression_type m f past expression ≡ None

sampling_has_none : (at e image sampler : ℕ) (expression : PlainExpression) → IsAmong (samples e image sampler) (sampling_at at expression) → HasNone expression
sampling_has_none at e image sampler (plain (x.ImageSample i s gathers coordinate array_index offset level depth_ref clamp_to_edge)) among = λ m f past. refl
sampling_has_none at e image sampler _ among = elim among [ ]

in_expressions : (at e image sampler : ℕ) (expressions : List PlainExpression) → IsAmong (samples e image sampler) (expressions_effects at expressions)
    → (expression : PlainExpression) × IsAmong expression expressions × HasNone expression
in_expressions at e image sampler [] among = elim among [ ]
in_expressions at e image sampler (expression ∷ rest) among = elim (among-cases (expression_effects at expression) (expressions_effects (at + 1) rest) (samples e image sampler) among) [
  | inl own ↦ elim (among-cases (map takes (expression_uses expression)) (sampling_at at expression) (samples e image sampler) own) [
    | inl operand ↦ absurd (not_an_operand (expression_uses expression) e image sampler operand)
    | inr sampling ↦ (expression, inl refl, sampling_has_none at e image sampler expression sampling)
  ]
  | inr later ↦ (let r = in_expressions (at + 1) e image sampler rest later in (r.0, inr r.1, r.2))
]

module _ (m : PlainModule) (f : PlainFunction) (typed : (e : ℕ) → IsUntyped m f e → ⊥) where
  none_sampled : (e image sampler : ℕ) → IsAmong (samples e image sampler) (effects_of f) → ⊥
  none_sampled e image sampler among = elim (among-cases (expressions_effects 0 f.expressions) (effects_in f.body) (samples e image sampler) among) [
    | inl own ↦
        (let r = in_expressions 0 e image sampler f.expressions own in
        let t = typed_somewhere m f [] f.expressions r.0 r.1 in
        typed t.0 (t.2 ∙ ap Some (r.2 m f t.1)))
    | inr inside ↦ in_no_body f.body e image sampler inside
  ]

-- ---- what ends the fragment

abbrev ends_by : List Summary → Effect → Bool
ends_by summaries (takes operand) = false
ends_by summaries (samples e image sampler) = false
ends_by summaries (runs callee arguments) = may_end (slice_get summaries callee)
ends_by summaries discards = true

one_call : (b : Bool) → (b || false) ≡ is_some {T = Unit {0}} (if b then Some (record {}) else None)
one_call true = refl
one_call false = refl

leaving_ends : (summaries : List Summary) (s : PlainStatement) → list_any (ends_by summaries) (leaving_effects s) ≡ is_some (ends_in summaries s)
leaving_ends summaries (emit first end) = refl
leaving_ends summaries (block b) = refl
leaving_ends summaries (if_ test accept reject) = refl
leaving_ends summaries (switch selector cases) = refl
leaving_ends summaries (loop body continuing break_if) = refl
leaving_ends summaries break = refl
leaving_ends summaries continue = refl
leaving_ends summaries (return value) = refl
leaving_ends summaries kill = refl
leaving_ends summaries (operation a) = refl
leaving_ends summaries (call function arguments result) = one_call (may_end (slice_get summaries function))

ending : (o : Option Summary) → may_end o ≡ true → (t : Summary) × (o ≡ Some t) × IsTrue t.may_kill
ending None is = absurd (let h = is in cc)
ending (Some t) is = (t, refl, is)

module _ (f : PlainFunction) (summaries : List Summary) where
  abbrev Ends : Type 0
  Ends = Discards f ⊎ ((arguments : List ℕ) × (t : Summary) × CallsOne f summaries arguments t × IsTrue t.may_kill)

  looked_through : list_any (ends_by summaries) (effects_of f) ≡ is_some (first_in (ends_in summaries) f.body)
  looked_through =
      list_any-append (ends_by summaries) (expressions_effects 0 f.expressions) (effects_in f.body)
      ∙ (ap (λ b. b || list_any (ends_by summaries) (effects_in f.body)) (none_in_expressions (ends_by summaries) (λ o. refl) (λ e image sampler. refl) 0 f.expressions)
      ∙ found_in (ends_by summaries) (λ o. refl) (ends_in summaries) (leaving_ends summaries) f.body)

  by_effect : (effect : Effect) → IsAmong effect (effects_of f) → ends_by summaries effect ≡ true → Ends
  by_effect (takes operand) among is = absurd (let h = is in cc)
  by_effect (samples e image sampler) among is = absurd (let h = is in cc)
  by_effect (runs callee arguments) among is =
      let t = ending (slice_get summaries callee) is in
      inr (arguments, t.0, record { callee = callee; call = among; found = t.1 }, t.2)
  by_effect discards among is = inl among

  found_ends : is_some (first_in (ends_in summaries) f.body) ≡ true → Ends
  found_ends is = let r = among_any (ends_by summaries) (effects_of f) (looked_through ∙ is) in by_effect r.0 r.1 r.2

  ends_found : Ends → is_some (first_in (ends_in summaries) f.body) ≡ true
  ends_found (inl own) = sym looked_through ∙ any_among (ends_by summaries) (effects_of f) discards own refl
  ends_found (inr (arguments, t, calls, kills)) =
      sym looked_through ∙ any_among (ends_by summaries) (effects_of f) (runs calls.callee arguments) calls.call (ap may_end calls.found ∙ kills)

-- ---- all of it

no_pairs : (callees : List TinyInfo) (i : ℕ) (t : Summary) → slice_get (map summary_of callees) i ≡ Some t → t.pairs ≡ []
no_pairs [] i t at = absurd (let h = at in cc)
no_pairs (c ∷ cs) zero t at = let same : summary_of c ≡ t = (let h = at in cc) in sym (ap (λ (s : Summary). s.pairs) same)
no_pairs (c ∷ cs) (suc i) t at = no_pairs cs i t at

pub joined_of : (m : PlainModule) (f : PlainFunction) (callees : List TinyInfo) (uses : List GlobalUse) (may_kill : Bool) → m.globals ≡ [] → ((e : ℕ) → IsUntyped m f e → ⊥)
    → may_kill ≡ is_some (first_in (ends_in (map summary_of callees)) f.body)
    → IsJoined (length m.globals) f (map summary_of callees) (record { uses = uses; pairs = []; may_kill = may_kill })
joined_of m f callees uses may_kill none typed is = record {
  uses = λ g k lt. absurd (let long = ap length none in omega (arith, lt, long));
  pairs = λ p. (
    λ h. elim h [ ],
    λ s. elim s [
      | inl own ↦ absurd (none_sampled m f typed own.expression own.image own.sampler own.sampling)
      | inr c ↦ (let among = subst (λ pairs. IsAmong c.2 pairs) (no_pairs callees c.3.callee c.1 c.3.found) c.4 in elim among [ ])
    ],
  );
  may_kill = (
    λ h. found_ends f (map summary_of callees) (sym is ∙ h),
    λ e. is ∙ ends_found f (map summary_of callees) e,
  );
}
