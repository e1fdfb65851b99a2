-- What is emitted, one by one.
use Rattle.std.proofs.Common.{◌≡◌, ℕ, zero, suc, ◌+◌, ◌<◌, ◌≤◌, ◌⊎◌, inl, inr, ⊎_elim, List, [], ◌∷◌, ◌++◌, All, Option, Some, None, Contains, slice_get, option_to_list, refl, sym, ap, ◌∙◌, subst, arith}
use Rattle.std.proofs.lemmas.List.{append-nil, append_assoc}
use Rattle.std.proofs.lemmas.List.Elements.{All-contains, Contains-append_left, Contains-append_right, Contains-append_cases}
use Rattle.std.specs.List.{range_with_len}
use Rattle.typing_errors.specs.declared.error.FunctionError.{FunctionError}
use Rattle.typing_errors.specs.declared.error.FunctionError.TheVariants as error
use Rattle.ir_types.specs.judged.ExpressionPlain.{PlainExpression}
use Rattle.ir_items.specs.judged.Plain.{PlainFunction}
use Rattle.spec_expressions.specs.judged.ExpressionNames.{expression_operands}
use Rattle.function_body_checks.proofs.Tables.{head_held, only}
use Rattle.function_body_checks.specs.Carried.{Known}
use Rattle.function_strict_scope.specs.Tables.{operands_given}
use Rattle.function_strict_scope.specs.Walked.{EachKnown, IsEarlyOperand, IsAgainIn, IsFaultOfNew}

-- the rest leads to the whole
pub record LeadsRange (f : PlainFunction) (sure all now rest : List ℕ) : Type 0 where
  pub known : EachKnown f now rest → EachKnown f sure all
  pub grown : now ++ rest ≡ sure ++ all
  pub early : (o : ℕ) → IsEarlyOperand f now rest o → IsEarlyOperand f sure all o
  pub again : (x : ℕ) → IsAgainIn now rest x → IsAgainIn sure all x

pub range_first : (f : PlainFunction) (sure all : List ℕ) → LeadsRange f sure all sure all
range_first f sure all = record {
  known = λ h. h;
  grown = refl;
  early = λ o h. h;
  again = λ x h. h;
}

pub range_more : (f : PlainFunction) (sure all now next_now left : List ℕ) (h : ℕ) (rest : List ℕ) → LeadsRange f sure all now left → left ≡ h ∷ rest
    → All (Known f now) (operands_given (slice_get f.expressions h)) → next_now ≡ now ++ h ∷ [] → LeadsRange f sure all next_now rest
range_more f sure all now next_now left h rest leads is one added =
    let was : LeadsRange f sure all now (h ∷ rest) = subst (LeadsRange f sure all now) is leads in
    let made : LeadsRange f sure all (now ++ h ∷ []) rest = record {
      known = λ more. was.known (one, more);
      grown = append_assoc now (h ∷ []) rest ∙ was.grown;
      early = λ o more. was.early o (inr more);
      again = λ x more. was.again x (inr more);
    } in
    subst (λ xs. LeadsRange f sure all xs rest) (sym added) made

pub range_last : (f : PlainFunction) (sure all now left : List ℕ) → LeadsRange f sure all now left → left ≡ [] → EachKnown f sure all × (now ≡ sure ++ all)
range_last f sure all now left leads is =
    let was : LeadsRange f sure all now [] = subst (LeadsRange f sure all now) is leads in (was.known tt, sym (append-nil now) ∙ was.grown)

-- what is wrong with the next is wrong with all
pub range_fault : (f : PlainFunction) (sure all now left : List ℕ) (h : ℕ) (rest : List ℕ) (e : FunctionError) → LeadsRange f sure all now left → left ≡ h ∷ rest
    → IsFaultOfNew f now (h ∷ []) (h ∷ []) e → IsFaultOfNew f sure all all e
range_fault f sure all now left h rest e leads is wrong = told e wrong
  where
    was : LeadsRange f sure all now (h ∷ rest)
    was = subst (LeadsRange f sure all now) is leads

    first_early : (o : ℕ) → IsEarlyOperand f now (h ∷ []) o → IsEarlyOperand f now (h ∷ rest) o
    first_early o (inl own) = inl own
    first_early o (inr more) = absurd more

    first_again : (x : ℕ) → IsAgainIn now (h ∷ []) x → IsAgainIn now (h ∷ rest) x
    first_again x (inl own) = inl own
    first_again x (inr more) = absurd more

    told : (e : FunctionError) → IsFaultOfNew f now (h ∷ []) (h ∷ []) e → IsFaultOfNew f sure all all e
    told (error.Expression o source) w = (w.0, was.early o (first_early o w.1))
    told (error.ExpressionAlreadyInScope x) w = was.again x (first_again x w)
    told _ w = absurd w

-- where nothing is looked at in what comes into scope, nothing is wrong with that
pub only_again : (f : PlainFunction) (sure : List ℕ) (h : ℕ) (e : FunctionError) → IsFaultOfNew f sure [] (h ∷ []) e → IsFaultOfNew f sure (h ∷ []) (h ∷ []) e
only_again f sure h (error.Expression o source) w = absurd w.1
only_again f sure h (error.ExpressionAlreadyInScope x) w = w
only_again f sure h _ w = absurd w

-- ---- by handles

module _ (f : PlainFunction) where
  given_some : (o : Option PlainExpression) (x : PlainExpression) (operand : ℕ) → o ≡ Some x → Contains (expression_operands x) operand → Contains (operands_given o) operand
  given_some o x operand is held = subst (λ y. Contains (operands_given y) operand) (sym is) held

  -- in the scope with one more, an expression is that one or in scope
  one_more : (sure : List ℕ) (a o : ℕ) → Known f (sure ++ a ∷ []) o → Known f sure o ⊎ (a ≡ o)
  one_more sure a o (inl pre) = inl (inl pre)
  one_more sure a o (inr held) = ⊎_elim (λ before. inl (inr before)) (λ own. inr (only a o own)) (Contains-append_cases sure (a ∷ []) o held)

  known_more : (sure : List ℕ) (a o : ℕ) → Known f sure o → Known f (sure ++ a ∷ []) o
  known_more sure a o (inl pre) = inl pre
  known_more sure a o (inr held) = inr (Contains-append_left sure (a ∷ []) o held)

  own_known : (sure : List ℕ) (a : ℕ) → Known f (sure ++ a ∷ []) a
  own_known sure a = inr (Contains-append_right sure (a ∷ []) a (head_held a []))

  first_or_later : (a e : ℕ) → a ≤ e → (a ≡ e) ⊎ (a + 1 ≤ e)
  first_or_later zero zero le = inl refl
  first_or_later zero (suc e) le = inr (omega arith)
  first_or_later (suc a) zero le = absurd (omega (arith, le))
  first_or_later (suc a) (suc e) le = ⊎_elim (λ is. inl (ap (λ n. suc n) is)) (λ later. inr (omega (arith, later))) (first_or_later a e (omega (arith, le)))

  pub operand_known : (n a : ℕ) (sure : List ℕ) → EachKnown f sure (range_with_len a n) → (e : ℕ) → a ≤ e → e < a + n → (x : PlainExpression) → slice_get f.expressions e ≡ Some x
      → (o : ℕ) → Contains (expression_operands x) o → ((a ≤ o) × (o < e)) ⊎ Known f sure o
  operand_known zero a sure each e ge lt x at o held = absurd (omega (arith, ge, lt))
  operand_known (suc n) a sure each e ge lt x at o held = ⊎_elim
      (λ is. inr (All-contains (Known f sure) (operands_given (slice_get f.expressions a)) o each.0 (given_some (slice_get f.expressions a) x o (ap (slice_get f.expressions) is ∙ at) held)))
      (λ later. ⊎_elim
      (λ both. inl ((let l = both.0 in omega (arith, l)), both.1))
      (λ known. ⊎_elim (λ before. inr before) (λ own. inl ((omega (arith, own)), (omega (arith, own, later)))) (one_more sure a o known))
      (operand_known n (a + 1) (sure ++ a ∷ []) each.1 e later (omega (arith, lt)) x at o held))
      (first_or_later a e ge)

  -- an operand of an expression of the range, neither before it there nor in scope
  pub record EarlyAt (a n : ℕ) (sure : List ℕ) (o : ℕ) : Type 0 where
    pub expression : ℕ
    pub from : a ≤ expression
    pub below : expression < a + n
    pub form : PlainExpression
    pub is : slice_get f.expressions expression ≡ Some form
    pub operand : Contains (expression_operands form) o
    pub later : ¬ ((a ≤ o) × (o < expression))
    pub unknown : ¬ Known f sure o

  some_given : (o : Option PlainExpression) (operand : ℕ) → Contains (operands_given o) operand → (x : PlainExpression) × (o ≡ Some x) × Contains (expression_operands x) operand
  some_given None operand held = absurd (omega (arith, held.1))
  some_given (Some x) operand held = (x, refl, held)

  pub early_at : (n a : ℕ) (sure : List ℕ) (o : ℕ) → IsEarlyOperand f sure (range_with_len a n) o → EarlyAt a n sure o
  early_at zero a sure o h = absurd h
  early_at (suc n) a sure o (inl own) =
      let found = some_given (slice_get f.expressions a) o own.0 in
      record { expression = a; from = omega arith; below = omega arith; form = found.0; is = found.1; operand = found.2; later = λ both. (let x = both.0 in let y = both.1 in absurd (omega (arith, x, y))); unknown = own.1 }
  early_at (suc n) a sure o (inr more) =
      let found = early_at n (a + 1) (sure ++ a ∷ []) o more in
      let not_before : ¬ Known f sure o = (λ known. found.unknown (known_more sure a o known)) in
      let from = found.from in
      let below = found.below in
      record {
        expression = found.expression;
        from = omega (arith, from);
        below = omega (arith, below);
        form = found.form;
        is = found.is;
        operand = found.operand;
        later = λ both. ⊎_elim (λ is. found.unknown (subst (λ y. Known f (sure ++ a ∷ []) y) is (own_known sure a))) (λ more_than. found.later (more_than, both.1)) (first_or_later a o both.0);
        unknown = not_before;
      }

-- ---- what comes into scope again

in_range_above : (n a x : ℕ) → Contains (range_with_len a n) x → a ≤ x
in_range_above zero a x held = absurd (omega (arith, held.1))
in_range_above (suc n) a x held =
    ⊎_elim (λ own. (let is = only a x own in omega (arith, is))) (λ more. (let above = in_range_above n (a + 1) x more in omega (arith, above))) (Contains-append_cases (a ∷ []) (range_with_len (a + 1) n) x held)

pub again_in_range : (n a : ℕ) (sure : List ℕ) (x : ℕ) → IsAgainIn sure (range_with_len a n) x → Contains (range_with_len a n) x × Contains sure x
again_in_range zero a sure x h = absurd h
again_in_range (suc n) a sure x (inl own) = (subst (Contains (range_with_len a (suc n))) (sym own.0) (head_held a (range_with_len (a + 1) n)), own.1)
again_in_range (suc n) a sure x (inr more) =
    let found = again_in_range n (a + 1) (sure ++ a ∷ []) x more in
    let above = in_range_above n (a + 1) x found.0 in
    (Contains-append_right (a ∷ []) (range_with_len (a + 1) n) x found.0, ⊎_elim (λ before. before) (λ own. (let is = only a x own in absurd (omega (arith, is, above)))) (Contains-append_cases sure (a ∷ []) x found.1))

pub again_in_result : (o : Option ℕ) (sure : List ℕ) (x : ℕ) → IsAgainIn sure (option_to_list o) x → Contains (option_to_list o) x × Contains sure x
again_in_result None sure x h = absurd h
again_in_result (Some e) sure x (inl own) = (subst (Contains (e ∷ [])) (sym own.0) (head_held e []), own.1)
again_in_result (Some e) sure x (inr more) = absurd more
