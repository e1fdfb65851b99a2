-- What is looked for among the effects of a function, and in the statements of its body.
use Rattle.std.proofs.Common.{◌≡◌, ◌+◌, ◌||◌, ℕ, Bool, true, false, Option, Some, None, List, [], ◌∷◌, ◌++◌, map, refl, sym, ap, ◌∙◌, inl, inr}
use Rattle.std.proofs.lemmas.List.Folds.{list_any-append}
use Rattle.std.specs.List.{list_any}
use Rattle.std.specs.Option.{is_some, option_or}
use Rattle.ir_blocks.specs.judged.Plain.{PlainStatement, emit, block, if_, switch, loop, break, continue, return, kill, operation, call, PlainBlock, stop, next, PlainCases, no_case, case}
use Rattle.ir_types.specs.judged.ExpressionPlain.{PlainExpression, plain}
use Rattle.ir_types.specs.declared.expressions.Expression.TheVariants as x
use Rattle.typing_references.specs.First.{first_in, first_at, first_in_cases}
use Rattle.typing_rules.specs.judged.Laws.{IsAmong}
use Rattle.spec_expressions.specs.judged.Effects.{Effect, takes, samples, sampling_at, expression_effects, expressions_effects, leaving_effects, statement_effects, effects_in, effects_inside, effects_in_cases}
use Rattle.spec_expressions.specs.judged.OperandUses.{Operand, expression_uses, statement_uses}

-- ---- a test of members

or_false : (b : Bool) → (b || false) ≡ b
or_false true = refl
or_false false = refl

or_true : (a b : Bool) → b ≡ true → (a || b) ≡ true
or_true true b is = refl
or_true false b is = is

module _ {A : Type 0} (p : A → Bool) where
  pub any_among : (xs : List A) (x : A) → IsAmong x xs → p x ≡ true → list_any p xs ≡ true
  any_among [] x among is = elim among [ ]
  any_among (y ∷ ys) x (inl same) is = ap (λ b. b || list_any p ys) (ap p same ∙ is)
  any_among (y ∷ ys) x (inr among) is = or_true (p y) (list_any p ys) (any_among ys x among is)

  pub among_any : (xs : List A) → list_any p xs ≡ true → (x : A) × IsAmong x xs × (p x ≡ true)
  among_any [] any = absurd (let h = any in cc)
  among_any (y ∷ ys) any = elim (p y) as (λ b. p y ≡ b → (b || list_any p ys) ≡ true → (x : A) × IsAmong x (y ∷ ys) × (p x ≡ true)) [
    | true ↦ λ is rest. (y, inl refl, is)
    | false ↦ λ is rest. let r = among_any ys rest in (r.0, inr r.1, r.2)
  ] refl any

some_or : {A : Type 0} (a b : Option A) → is_some (option_or a b) ≡ (is_some a || is_some b)
some_or None b = refl
some_or (Some y) b = refl

-- ---- a test of effects that no operand passes

module _ (p : Effect → Bool) (not_taken : (o : Operand) → p (takes o) ≡ false) where
  none_taken : (os : List Operand) → list_any p (map takes os) ≡ false
  none_taken [] = refl
  none_taken (o ∷ os) = ap (λ b. b || list_any p (map takes os)) (not_taken o) ∙ none_taken os

  behind_taken : (os : List Operand) (xs : List Effect) → list_any p (map takes os ++ xs) ≡ list_any p xs
  behind_taken os xs = list_any-append p (map takes os) xs ∙ ap (λ b. b || list_any p xs) (none_taken os)

  -- in expressions, where no sampling passes it either
  module _ (not_sampled : (e image sampler : ℕ) → p (samples e image sampler) ≡ false) where
    none_sampled : (e : ℕ) (expression : PlainExpression) → list_any p (sampling_at e expression) ≡ false
    none_sampled e (plain (x.ImageSample image sampler gathers coordinate array_index offset level depth_ref clamp_to_edge)) = ap (λ b. b || false) (not_sampled e image sampler)
    none_sampled e _ = refl

    pub none_in_expressions : (e : ℕ) (expressions : List PlainExpression) → list_any p (expressions_effects e expressions) ≡ false
    none_in_expressions e [] = refl
    none_in_expressions e (expression ∷ rest) =
        list_any-append p (expression_effects e expression) (expressions_effects (e + 1) rest)
        ∙ ap (λ b. b || list_any p (expressions_effects (e + 1) rest)) (behind_taken (expression_uses expression) (sampling_at e expression) ∙ none_sampled e expression)
        ∙ none_in_expressions (e + 1) rest

  -- in a body, where it is what is looked for in a statement
  module _ {F : Type 0} (look : PlainStatement → Option F) (own : (s : PlainStatement) → list_any p (leaving_effects s) ≡ is_some (look s)) where
    of_statement : (s : PlainStatement) → list_any p (statement_effects s) ≡ is_some (look s)
    of_statement s = behind_taken (statement_uses s) (leaving_effects s) ∙ own s

    -- with nothing inside
    alone : (s : PlainStatement) → list_any p (statement_effects s ++ []) ≡ is_some (look s)
    alone s = list_any-append p (statement_effects s) [] ∙ (or_false (list_any p (statement_effects s)) ∙ of_statement s)

    -- in a part, and in what stands after it
    both : (xs ys : List Effect) (a b : Option F) → list_any p xs ≡ is_some a → list_any p ys ≡ is_some b → list_any p (xs ++ ys) ≡ is_some (option_or a b)
    both xs ys a b first after = list_any-append p xs ys ∙ (ap (λ z. z || list_any p ys) first ∙ (ap (λ z. is_some a || z) after ∙ sym (some_or a b)))

    mutual
      pub found_in : (b : PlainBlock) → list_any p (effects_in b) ≡ is_some (first_in look b)
      found_in stop = refl
      found_in (next s rest) = both (statement_effects s ++ effects_inside s) (effects_in rest) (first_at look s) (first_in look rest) (found_at s) (found_in rest)

      found_at : (s : PlainStatement) → list_any p (statement_effects s ++ effects_inside s) ≡ is_some (first_at look s)
      found_at (emit first end) = alone (emit first end)
      found_at (block b) = both (statement_effects (block b)) (effects_in b) (look (block b)) (first_in look b) (of_statement (block b)) (found_in b)
      found_at (if_ test accept reject) =
          both (statement_effects (if_ test accept reject)) (effects_in accept ++ effects_in reject) (look (if_ test accept reject)) (option_or (first_in look accept) (first_in look reject))
          (of_statement (if_ test accept reject)) (both (effects_in accept) (effects_in reject) (first_in look accept) (first_in look reject) (found_in accept) (found_in reject))
      found_at (switch selector cases) =
          both (statement_effects (switch selector cases)) (effects_in_cases cases) (look (switch selector cases)) (first_in_cases look cases) (of_statement (switch selector cases)) (found_in_cases cases)
      found_at (loop body continuing break_if) =
          both (statement_effects (loop body continuing break_if)) (effects_in body ++ effects_in continuing) (look (loop body continuing break_if)) (option_or (first_in look body) (first_in look continuing))
          (of_statement (loop body continuing break_if)) (both (effects_in body) (effects_in continuing) (first_in look body) (first_in look continuing) (found_in body) (found_in continuing))
      found_at break = alone break
      found_at continue = alone continue
      found_at (return value) = alone (return value)
      found_at kill = alone kill
      found_at (operation a) = alone (operation a)
      found_at (call function arguments result) = alone (call function arguments result)

      found_in_cases : (cases : PlainCases) → list_any p (effects_in_cases cases) ≡ is_some (first_in_cases look cases)
      found_in_cases no_case = refl
      found_in_cases (case value body falls rest) = both (effects_in body) (effects_in_cases rest) (first_in look body) (first_in_cases look rest) (found_in body) (found_in_cases rest)
