-- Whether each that denotes an answer is answered, by marks and by places.
use Rattle.std.proofs.Common.{◌≡◌, ◌↔◌, ◌⊎◌, inl, inr, rules, ◌<◌, ◌+◌, zero, suc, ℕ, Bool, true, IsTrue, List, [], ◌∷◌, ◌++◌, Some, Contains, length, map, slice_get, refl, sym, ap, subst, ◌∙◌, arith}
use Rattle.std.proofs.lemmas.List.{length-map}
use Rattle.std.proofs.lemmas.Option.{slice_get_within}
use Rattle.typing_errors.specs.declared.error.FunctionError.{FunctionError}
use Rattle.typing_errors.specs.declared.error.FunctionError.TheVariants as error
use Rattle.function_interface.specs.Answered.{AllAnswered, IsUnansweredFault}
use Rattle.ir_blocks.specs.judged.Places.{Place}
use Rattle.ir_types.specs.judged.ExpressionPlain.{PlainExpression}
use Rattle.spec_statements.specs.judged.BlockContext.{BlockContext}
use Rattle.spec_statements.specs.judged.Results.{AnswersBy, DenotesResult, of_call, of_atomic}
use Rattle.function_whole.specs.Faults.{IsUnanswered}
use Rattle.function_whole.specs.Judged.{AllAnswer}

-- ---- marks, one after another

left_of : (xs : List Bool) (b : Bool) (e : ℕ) → e < length xs → slice_get (xs ++ b ∷ []) e ≡ slice_get xs e
left_of [] b e lt = absurd (omega (arith, lt))
left_of (x ∷ xs) b zero lt = refl
left_of (x ∷ xs) b (suc e) lt = left_of xs b e (omega (arith, lt))

last_of : (xs : List Bool) (b : Bool) → slice_get (xs ++ b ∷ []) (length xs) ≡ Some b
last_of [] b = refl
last_of (x ∷ xs) b = last_of xs b

as_long : (xs : List Bool) (b : Bool) → length (xs ++ b ∷ []) ≡ length xs + 1
as_long [] b = refl
as_long (x ∷ xs) b = (let more = as_long xs b in omega (arith, more))

pub longer : (xs : List Bool) (b : Bool) (n : ℕ) → length xs ≡ n → length (xs ++ b ∷ []) ≡ n + 1
longer xs b n many = (let more = as_long xs b in omega (arith, more, many))

pub as_many : {A B C : Type 0} (f : A → B) (g : B → C) (xs : List A) (n : ℕ) → n ≡ length xs → n ≡ length (map g (map f xs))
as_many f g xs n many = (let a = length-map xs f in let b = length-map (map f xs) g in omega (arith, a, b, many))

below_or_same : (i end : ℕ) → i < end + 1 → (i < end) ⊎ (i ≡ end)
below_or_same i end lt = search rules

abbrev pub MarkedBelow : List ℕ → List Bool → ℕ → Type 0
MarkedBelow answered marks n = (e : ℕ) → e < n → (slice_get marks e ≡ Some true) ↔ Contains answered e

pub none_marked : (answered : List ℕ) → MarkedBelow answered [] 0
none_marked answered e lt = absurd (omega (arith, lt))

pub one_marked : (answered : List ℕ) (marks : List Bool) (n : ℕ) (b : Bool) → length marks ≡ n → MarkedBelow answered marks n → (IsTrue b ↔ Contains answered n) → MarkedBelow answered (marks ++ b ∷ []) (n + 1)
one_marked answered marks n b many before is e lt = elim (below_or_same e n lt) [
  | inl less ↦ (let same = left_of marks b e (omega (arith, less, many)) in
      ((λ at. (before e less).0 (sym same ∙ at)), (λ has. same ∙ (before e less).1 has)))
  | inr at_end ↦ (let there : slice_get (marks ++ b ∷ []) n ≡ Some b = subst (λ k. slice_get (marks ++ b ∷ []) k ≡ Some b) many (last_of marks b) in (
    (λ at. subst (Contains answered) (sym at_end) (is.0 (let x = sym there ∙ subst (λ k. slice_get (marks ++ b ∷ []) k ≡ Some true) at_end at in cc))),
    (λ has. subst (λ k. slice_get (marks ++ b ∷ []) k ≡ Some true) (sym at_end) (there ∙ ap Some (is.1 (subst (Contains answered) at_end has)))),
  ))
]

-- ---- by marks and by places

occurs_within : (xs : List PlainExpression) (e : ℕ) → DenotesResult xs e → e < length xs
occurs_within xs e (of_call at) = slice_get_within xs e _ at
occurs_within xs e (of_atomic at) = slice_get_within xs e _ at

module _ (c : BlockContext) (answered : List ℕ) (marks : List Bool) (count : ℕ) (many : count ≡ length c.f.expressions)
    (each : (e : ℕ) → e < count → (slice_get marks e ≡ Some true) ↔ Contains answered e)
    (by : (e : ℕ) → Contains answered e ↔ ((p : Place) × AnswersBy c.f.body p e)) where
  inside_count : (e : ℕ) → DenotesResult c.f.expressions e → e < count
  inside_count e stands = subst (λ n. e < n) (let m = many in sym_of m) (occurs_within c.f.expressions e stands)
    where
      sym_of : count ≡ length c.f.expressions → length c.f.expressions ≡ count
      sym_of m = cc

  pub all_answer : AllAnswered c.f.expressions marks → AllAnswer c
  all_answer all e stands = (by e).0 ((each e (inside_count e stands)).0 (all e stands))

  pub unanswered : (x : FunctionError) → IsUnansweredFault c.f.expressions marks x → IsUnanswered c.f x
  unanswered (error.UnvisitedExpression e) w = record {
    stands = w.stands;
    none = λ p answers. w.unanswered ((each e (inside_count e w.stands)).1 ((by e).1 (p, answers)));
  }
  unanswered _ w = absurd w
