-- What statements bring into scope and answer by.
use Rattle.std.proofs.Common.{◌≡◌, ℕ, suc, ◌+◌, ◌⊎◌, inl, inr, Bool, true, false, List, ◌∷◌, ◌++◌, All, Option, Some, None, Contains, IsSomeAnd, slice_get, option_to_list, ◌||◌, if◌then◌else◌, refl, sym, ap, ◌∙◌, subst, true≢false, arith, []}
use Rattle.std.proofs.lemmas.Bool.{or_right}
use Rattle.std.proofs.lemmas.List.{append-nil}
use Rattle.std.proofs.lemmas.List.Elements.{All-nil, All-cons, All-contains, Contains-append_left, Contains-append_right}
use Rattle.typing_errors.specs.declared.expressions.ExpressionError.TheVariants.{NotInScope}
use Rattle.typing_errors.specs.declared.error.FunctionError.{FunctionError}
use Rattle.typing_errors.specs.declared.error.FunctionError.TheVariants.{Expression}
use Rattle.ir_arena.specs.judged.Handles.{handles_between}
use Rattle.ir_blocks.specs.judged.Places.{statement, loop_condition}
use Rattle.ir_blocks.specs.judged.Plain.{PlainStatement, emit, block, if_, switch, loop, break, continue, return, kill, operation, call}
use Rattle.ir_types.specs.judged.ExpressionPlain.{PlainExpression}
use Rattle.ir_items.specs.judged.Plain.{PlainFunction}
use Rattle.typing_references.specs.First.{emitted_view}
use Rattle.spec_expressions.specs.judged.StatementNames.{statement_callee, statement_range, statement_result}
use Rattle.spec_expressions.specs.judged.Kinds.{Emitted}
use Rattle.spec_statements.specs.judged.Results.{answer_of}
use Rattle.spec_statements.specs.judged.Scope.{is_pre_emitted}
use Rattle.spec_statements.specs.judged.Tables.{checked_at, statement_checked, introduced}
use Rattle.function_body_checks.proofs.Lists.{holds_at, held_at}
use Rattle.function_body_checks.specs.Carried.{Fine, IsBrought, IsFaultHere, IsNoted, Known, holds, pre_known, known, first_lacking, place_lacking}
use Rattle.function_body_checks.specs.Lists.{IsAdded}

abbrev end_of : Option Emitted → ℕ × ℕ
end_of (Some x) = (x.first, x.end)
end_of None = (0, 0)

pub emitted : (s : PlainStatement) (r : ℕ × ℕ) → Some (emitted_view r) ≡ statement_range s → handles_between r ≡ introduced s
emitted (emit first end) r e = ap (λ x. handles_between (end_of x)) e
emitted (block b) r e = let x = e in cc
emitted (if_ test accept reject) r e = let x = e in cc
emitted (switch selector cases) r e = let x = e in cc
emitted (loop body continuing break_if) r e = let x = e in cc
emitted break r e = let x = e in cc
emitted continue r e = let x = e in cc
emitted (return value) r e = let x = e in cc
emitted kill r e = let x = e in cc
emitted (operation a) r e = let x = e in cc
emitted (call function arguments answer) r e = let x = e in cc

pub resulting : (s : PlainStatement) → None ≡ statement_range s → option_to_list (statement_result s) ≡ introduced s
resulting (emit first end) e = let x = e in cc
resulting (block b) e = refl
resulting (if_ test accept reject) e = refl
resulting (switch selector cases) e = refl
resulting (loop body continuing break_if) e = refl
resulting break e = refl
resulting continue e = refl
resulting (return value) e = refl
resulting kill e = refl
resulting (operation a) e = refl
resulting (call function arguments answer) e = refl

-- what is noted stands after what was
noted_behind : (asked : Bool) (old new : List ℕ) (answer : Option ℕ) → IsNoted asked old new answer → new ≡ old ++ option_to_list answer
noted_behind asked old new None h = h ∙ sym (append-nil old)
noted_behind asked old new (Some e) h = h.0

pub noted : (asked : Bool) (old new : List ℕ) (s : PlainStatement) → IsNoted asked old new (answer_of s) → new ≡ old ++ option_to_list (answer_of s)
noted asked old new s h = noted_behind asked old new (answer_of s) h

not_noted : (asked : Bool) (old new : List ℕ) (answer : Option ℕ) (e : ℕ) → IsNoted asked old new answer → answer ≡ Some e → (¬ Contains old e) × (asked ≡ true)
not_noted asked old new None e h is = let x = is in cc
not_noted asked old new (Some a) e h is = let same : a ≡ e = (let y = is in cc) in ((λ held. h.1 (subst (Contains old) (sym same) held)), h.2)

pub fine : (f : PlainFunction) (asked : Bool) (s : PlainStatement) (scope old new : List ℕ) → All (Known f scope) (statement_checked s) → All (λ e. ¬ Known f scope e) (introduced s)
    → IsNoted asked old new (answer_of s) → Fine f asked (statement s) scope old
fine f asked s scope old new used fresh h = record {
  used = used;
  fresh = fresh;
  once = λ e is. (not_noted asked old new (answer_of s) e h is).0;
  asks = λ e is. (not_noted asked old new (answer_of s) e h is).1;
}

-- one that was not added was there
pub was_there : (old new : List ℕ) (e : ℕ) (b : Bool) → IsAdded old new e b → b ≡ false → Contains old e
was_there old new e true h is = absurd (true≢false is)
was_there old new e false h is = h.1

pub was_known : (f : PlainFunction) (old new : List ℕ) (e : ℕ) (b : Bool) → IsBrought f old new e b → b ≡ false → Known f old e
was_known f old new e true h is = absurd (true≢false is)
was_known f old new e false h is = h.1

pub is_brought : (f : PlainFunction) (old new : List ℕ) (e : ℕ) (b : Bool) → IsBrought f old new e b → b ≡ true → (new ≡ old ++ e ∷ []) × ¬ Known f old e
is_brought f old new e true h is = h
is_brought f old new e false h is = absurd (true≢false (sym is))

-- ---- the first of a list

pub head_held : (h : ℕ) (rest : List ℕ) → Contains (h ∷ rest) h
head_held h rest = Contains-append_left (h ∷ []) rest h (0, omega arith, refl)

pub only : (h e : ℕ) → Contains (h ∷ []) e → h ≡ e
only h e held = All-contains (λ x. h ≡ x) (h ∷ []) e (All-cons (λ x. h ≡ x) h [] refl (All-nil (λ x. h ≡ x))) held

-- ---- what is in scope, as a test

pub pre_true : (o : Option PlainExpression) → pre_known o ≡ true → IsSomeAnd o (λ x. is_pre_emitted x ≡ true)
pre_true None h = absurd (true≢false (sym h))
pre_true (Some x) h = h

pub true_pre : (o : Option PlainExpression) → IsSomeAnd o (λ x. is_pre_emitted x ≡ true) → pre_known o ≡ true
true_pre None h = absurd h
true_pre (Some x) h = h

known_either : (f : PlainFunction) (scope : List ℕ) (e : ℕ) (b : Bool) → holds scope e ≡ b → (b || pre_known (slice_get f.expressions e)) ≡ true → Known f scope e
known_either f scope e true is h = inr (held_at scope e is)
known_either f scope e false is h = inl (pre_true (slice_get f.expressions e) h)

known_true : (f : PlainFunction) (scope : List ℕ) (e : ℕ) → known f scope e ≡ true → Known f scope e
known_true f scope e h = known_either f scope e (holds scope e) refl h

true_known : (f : PlainFunction) (scope : List ℕ) (e : ℕ) → Known f scope e → known f scope e ≡ true
true_known f scope e h = elim h [
  | inl pre ↦ or_right (holds scope e) (pre_known (slice_get f.expressions e)) (true_pre (slice_get f.expressions e) pre)
  | inr held ↦ ap (λ b. b || pre_known (slice_get f.expressions e)) (holds_at scope e held)
]

-- an expression that the test tells
pub reported_known : (f : PlainFunction) (scope : List ℕ) (e : ℕ) (b : Bool) → b ≡ known f scope e → b ≡ true → Known f scope e
reported_known f scope e b is yes_ = known_true f scope e (sym is ∙ yes_)

pub reported_unknown : (f : PlainFunction) (scope : List ℕ) (e : ℕ) (b : Bool) → b ≡ known f scope e → b ≡ false → ¬ Known f scope e
reported_unknown f scope e b is no_ h = true≢false (sym (true_known f scope e h) ∙ (sym is ∙ no_))

module _ (f : PlainFunction) (scope : List ℕ) where
  none_lacks : (e : ℕ) (es : List ℕ) (b : Bool) → known f scope e ≡ b → None ≡ (if b then first_lacking (known f scope) es else Some e) → Known f scope e × (None ≡ first_lacking (known f scope) es)
  none_lacks e es true is h = (known_true f scope e is, h)
  none_lacks e es false is h = let x = h in absurd (cc)

  pub all_known : (xs : List ℕ) → None ≡ first_lacking (known f scope) xs → All (Known f scope) xs
  all_known [] h = All-nil (Known f scope)
  all_known (e ∷ es) h = let both = none_lacks e es (known f scope e) refl h in All-cons (Known f scope) e es both.0 (all_known es both.1)

  one_lacks : (x e : ℕ) (es : List ℕ) (b : Bool) → known f scope x ≡ b → Some e ≡ (if b then first_lacking (known f scope) es else Some x) → ((x ≡ e) × (known f scope x ≡ false)) ⊎ (Some e ≡ first_lacking (known f scope) es)
  one_lacks x e es true is h = inr h
  one_lacks x e es false is h = inl ((let y = h in cc), is)

  pub not_known : (xs : List ℕ) (e : ℕ) → Some e ≡ first_lacking (known f scope) xs → Contains xs e × ¬ Known f scope e
  not_known [] e h = let x = h in absurd (cc)
  not_known (x ∷ es) e h = elim (one_lacks x e es (known f scope x) refl h) [
    | inl here ↦ (subst (Contains (x ∷ es)) here.0 (head_held x es), reported_unknown f scope e (known f scope x) (ap (known f scope) here.0) here.1)
    | inr more ↦ (let rest = not_known es e more in (Contains-append_right (x ∷ []) es e rest.0, rest.1))
  ]

  none_placed : (n e : ℕ) (es : List ℕ) (b : Bool) → known f scope e ≡ b → None ≡ (if b then place_lacking (known f scope) (n + 1) es else Some n) → Known f scope e × (None ≡ place_lacking (known f scope) (n + 1) es)
  none_placed n e es true is h = (known_true f scope e is, h)
  none_placed n e es false is h = let x = h in absurd (cc)

  all_from : (n : ℕ) (xs : List ℕ) → None ≡ place_lacking (known f scope) n xs → All (Known f scope) xs
  all_from n [] h = All-nil (Known f scope)
  all_from n (e ∷ es) h = let both = none_placed n e es (known f scope e) refl h in All-cons (Known f scope) e es both.0 (all_from (n + 1) es both.1)

  pub all_placed : (xs : List ℕ) → None ≡ place_lacking (known f scope) 0 xs → All (Known f scope) xs
  all_placed xs h = all_from 0 xs h

  one_placed : (n p x : ℕ) (es : List ℕ) (b : Bool) → known f scope x ≡ b → Some p ≡ (if b then place_lacking (known f scope) (n + 1) es else Some n) → ((n ≡ p) × (known f scope x ≡ false)) ⊎ (Some p ≡ place_lacking (known f scope) (n + 1) es)
  one_placed n p x es true is h = inr h
  one_placed n p x es false is h = inl ((let y = h in cc), is)

  placed_from : (n : ℕ) (xs : List ℕ) (p : ℕ) → Some p ≡ place_lacking (known f scope) n xs → (k : ℕ) × (p ≡ n + k) × ((e : ℕ) × (slice_get xs k ≡ Some e) × ¬ Known f scope e)
  placed_from n [] p h = let x = h in absurd (cc)
  placed_from n (x ∷ es) p h = elim (one_placed n p x es (known f scope x) refl h) [
    | inl here ↦ (0, (let e = here.0 in omega (arith, e)), (x, refl, reported_unknown f scope x (known f scope x) refl here.1))
    | inr more ↦ (let rest = placed_from (n + 1) es p more in (suc rest.0, (let e = rest.1 in omega (arith, e)), rest.2))
  ]

  pub not_placed : (xs : List ℕ) (p : ℕ) → Some p ≡ place_lacking (known f scope) 0 xs → (e : ℕ) × (slice_get xs p ≡ Some e) × ¬ Known f scope e
  not_placed xs p h = let found = placed_from 0 xs p h in subst (λ k. (e : ℕ) × (slice_get xs k ≡ Some e) × ¬ Known f scope e) (let e = found.1 in omega (arith, e)) found.2

-- one that is added where it is not known is brought
pub added_known : (f : PlainFunction) (old new : List ℕ) (e : ℕ) (b : Bool) → ¬ Known f old e → IsAdded old new e b → IsBrought f old new e b
added_known f old new e true unknown h = (h.0, unknown)
added_known f old new e false unknown h = (h.0, inr h.1)

-- ---- a loop's condition

pub condition_known : (f : PlainFunction) (scope : List ℕ) (break_if : Option ℕ) (e : ℕ) → break_if ≡ Some e → Known f scope e → All (Known f scope) (checked_at (loop_condition break_if))
condition_known f scope break_if e is held = subst (λ o. All (Known f scope) (checked_at (loop_condition o))) (sym is) (All-cons (Known f scope) e [] held (All-nil (Known f scope)))

pub condition_unknown : (f : PlainFunction) (asked : Bool) (scope answered : List ℕ) (break_if : Option ℕ) (e : ℕ) (wrong : FunctionError) → break_if ≡ Some e → ¬ Known f scope e → wrong ≡ Expression e NotInScope
    → IsFaultHere f asked (loop_condition break_if) scope answered wrong
condition_unknown f asked scope answered break_if e wrong is unknown told =
    subst (λ o. IsFaultHere f asked (loop_condition o) scope answered wrong) (sym is)
    (subst (IsFaultHere f asked (loop_condition (Some e)) scope answered) (sym told) (refl, refl, (head_held e [], unknown)))

pub operand_unknown : (f : PlainFunction) (asked : Bool) (scope answered : List ℕ) (s : PlainStatement) (e : ℕ) (wrong : FunctionError) → statement_callee s ≡ None → Contains (statement_checked s) e × ¬ Known f scope e
    → wrong ≡ Expression e NotInScope → IsFaultHere f asked (statement s) scope answered wrong
operand_unknown f asked scope answered s e wrong other found told = subst (IsFaultHere f asked (statement s) scope answered) (sym told) (other, refl, found)
