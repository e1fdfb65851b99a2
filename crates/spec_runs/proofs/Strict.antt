-- If strict scope is valid, every operand may be used.
use Rattle.std.proofs.Common.{◌≡◌, ℕ, zero, suc, ◌+◌, ◌-◌, ◌<◌, ◌≤◌, Bool, true, false, List, ◌∷◌, ◌++◌, ◌⊎◌, inl, inr, Option, Some, None, Contains, slice_get, option_to_list, filter, if◌then◌else◌, refl, sym, ap, ◌∙◌, subst, arith, [], ⊎_elim}
use Rattle.std.proofs.lemmas.List.Elements.{Contains-append_left, Contains-append_right, Contains-append_cases, Contains-push}
use Rattle.std.specs.List.{cons_option, range_with_len}
use Rattle.ir_blocks.specs.judged.Places.{Place, Spot, nothing, statement, loop_condition, spot_at, OccursAt}
use Rattle.ir_blocks.specs.judged.Plain.{PlainStatement, emit, block, if_, switch, loop, break, continue, return, kill, operation, call, PlainBlock, stop, next}
use Rattle.ir_types.specs.judged.ExpressionPlain.{PlainExpression}
use Rattle.ir_items.specs.judged.Plain.{PlainFunction}
use Rattle.spec_expressions.specs.judged.ExpressionNames.{expression_operands}
use Rattle.spec_expressions.specs.judged.Operands.{Operands, these, each_of, handles_of, is_looked_up, looked_up}
use Rattle.spec_expressions.specs.judged.Kinds.{statement_slots}
use Rattle.spec_expressions.specs.declared.operand.Scoping.{Scoping}
use Rattle.spec_expressions.specs.declared.operand.Scoping.TheVariants.{Always, Strictly, Apart}
use Rattle.spec_expressions.specs.declared.operand.Slot.{Slot}
use Rattle.spec_expressions.specs.judged.StatementNames.{statement_result}
use Rattle.spec_statements.proofs.ScopeLaws.{none_held}
use Rattle.spec_statements.proofs.StrictLaws.{strict_by_walk_lem}
use Rattle.spec_statements.specs.judged.Scope.{PreEmitted}
use Rattle.spec_statements.specs.judged.Strict.{InStrictScope, StrictOK, needed_at}
use Rattle.spec_statements.specs.found.SureLevel.{holds_continue, unless, sure_level, visible_by}
use Rattle.spec_statements.specs.judged.Tables.{checked_at, introduced}
use Rattle.spec_statements.specs.judged.Visible.{top_level}
use Rattle.spec_runs.specs.judged.Laws.{StrictIsLawful, AnswersNameNothing, StrictSuffices}

-- ---- what the top level leaves

unless_held : (b : Bool) (es : List ℕ) (e : ℕ) → Contains (unless b es) e → Contains es e
unless_held true es e held = none_held e held
unless_held false es e held = held

sure_is_top : (b : PlainBlock) (e : ℕ) → Contains (sure_level b) e → Contains (top_level b) e
sure_is_top stop e held = held
sure_is_top (next s rest) e held =
    ⊎_elim
    (λ own. Contains-append_left (introduced s) _ e own)
    (λ more. Contains-append_right (introduced s) _ e (sure_is_top rest e (unless_held (holds_continue s) (sure_level rest) e more)))
    (Contains-append_cases (introduced s) _ e held)

sure_first : (s : PlainStatement) (rest : PlainBlock) (e : ℕ) → Contains (sure_level (next s rest)) e → Contains (introduced s ++ sure_level rest) e
sure_first s rest e held =
    ⊎_elim
    (λ own. Contains-append_left (introduced s) _ e own)
    (λ more. Contains-append_right (introduced s) _ e (unless_held (holds_continue s) (sure_level rest) e more))
    (Contains-append_cases (introduced s) _ e held)

-- a statement that contains a continue introduces nothing itself
holder_introduces : (s : PlainStatement) (e : ℕ) → holds_continue s ≡ true → Contains (introduced s) e → ⊥
holder_introduces (emit first end) e goes held = cc (goes)
holder_introduces (block b) e goes held = none_held e held
holder_introduces (if_ test accept reject) e goes held = none_held e held
holder_introduces (switch selector cases) e goes held = none_held e held
holder_introduces (loop body continuing break_if) e goes held = none_held e held
holder_introduces break e goes held = none_held e held
holder_introduces continue e goes held = none_held e held
holder_introduces (return value) e goes held = none_held e held
holder_introduces kill e goes held = none_held e held
holder_introduces (operation a) e goes held = cc (goes)
holder_introduces (call function arguments result) e goes held = cc (goes)

nothing_behind : (s : PlainStatement) (rest : PlainBlock) (e : ℕ) → holds_continue s ≡ true → Contains (sure_level (next s rest)) e → ⊥
nothing_behind s rest e goes held =
    ⊎_elim (holder_introduces s e goes) (λ more. none_held e (subst (λ b. Contains (unless b (sure_level rest)) e) goes more)) (Contains-append_cases (introduced s) _ e held)

pub strict_is_lawful : StrictIsLawful
strict_is_lawful = record { leaves = sure_is_top; first = sure_first; skips = λ s rest e goes held. absurd (nothing_behind s rest e goes held) }

-- ---- operands that must be in scope without the check are among all operands

behind : (x e : ℕ) (xs : List ℕ) → Contains xs e → Contains (x ∷ xs) e
behind x e xs held = Contains-append_right (x ∷ []) xs e held

first : (x : ℕ) (xs : List ℕ) → Contains (x ∷ xs) x
first x xs = Contains-append_left (x ∷ []) xs x (Contains-push [] x)

one : (x e : ℕ) → Contains (x ∷ []) e → e ≡ x
one e x (zero, lt, is) = sym is
one e x (suc k, lt, is) = absurd (omega (arith, lt))

-- one of the two, or among the rest
split : (x e : ℕ) (xs : List ℕ) → Contains (x ∷ xs) e → (e ≡ x) ⊎ Contains xs e
split x e xs held = ⊎_elim (λ own. inl (one x e own)) (λ more. inr more) (Contains-append_cases (x ∷ []) xs e held)

option_later : (o : Option ℕ) (all : List ℕ) (e : ℕ) → Contains all e → Contains (cons_option o all) e
option_later None all e held = held
option_later (Some x) all e held = behind x e all held

option_or_rest : (o : Option ℕ) (few all : List ℕ) (e : ℕ) → (Contains few e → Contains all e) → Contains (cons_option o few) e → Contains (cons_option o all) e
option_or_rest None few all e more held = more held
option_or_rest (Some x) few all e more held =
    ⊎_elim (λ is. subst (λ y. Contains (x ∷ all) y) (sym is) (first x all)) (λ rest. behind x e all (more rest)) (split x e few held)

-- of one operand, and then of the rest: those looked up, and all
by_scoping : (slot : Slot) (when : Scoping) (few all : List Slot) (e : ℕ) → (Contains (handles_of (these few)) e → Contains (handles_of (these all)) e)
    → Contains (handles_of (these (if is_looked_up false when then slot ∷ few else few))) e → Contains (handles_of (these (if is_looked_up true when then slot ∷ all else all))) e
by_scoping slot Always few all e more held = option_or_rest slot.handle (handles_of (these few)) (handles_of (these all)) e more held
by_scoping slot Strictly few all e more held = option_later slot.handle (handles_of (these all)) e (more held)
by_scoping slot Apart few all e more held = more held

slots_needed : (slots : List Slot) (e : ℕ) → Contains (looked_up false (these slots)) e → Contains (looked_up true (these slots)) e
slots_needed [] e held = held
slots_needed (slot ∷ rest) e held =
    by_scoping slot slot.scoping (filter (λ (s : Slot). is_looked_up false s.scoping) rest) (filter (λ (s : Slot). is_looked_up true s.scoping) rest) e (slots_needed rest e) held

are_needed : (operands : Operands) (e : ℕ) → Contains (looked_up false operands) e → Contains (looked_up true operands) e
are_needed (these slots) e held = slots_needed slots e held
are_needed (each_of Always handles) e held = held
are_needed (each_of Strictly handles) e held = none_held e held
are_needed (each_of Apart handles) e held = held

checked_is_needed : (spot : Spot) (e : ℕ) → Contains (checked_at spot) e → Contains (needed_at spot) e
checked_is_needed nothing e held = held
checked_is_needed (statement s) e held = are_needed (statement_slots s) e held
checked_is_needed (loop_condition break_if) e held = held

-- ---- ranges

in_range : (n a x : ℕ) → Contains (range_with_len a n) x → (a ≤ x) × (x < a + n)
in_range zero a x held = none_held x held
in_range (suc n) a x held =
    ⊎_elim
    (λ own. (let is = one a x own in (omega (arith, is), omega (arith, is))))
    (λ more. (let both = in_range n (a + 1) x more in let ge = both.0 in let lt = both.1 in (omega (arith, ge), omega (arith, lt))))
    (Contains-append_cases (a ∷ []) (range_with_len (a + 1) n) x held)

first_or_later : (a o : ℕ) → a ≤ o → (a ≡ o) ⊎ (a + 1 ≤ o)
first_or_later zero zero le = inl refl
first_or_later zero (suc o) le = inr (omega arith)
first_or_later (suc a) zero le = absurd (omega (arith, le))
first_or_later (suc a) (suc o) le = ⊎_elim (λ same. inl (ap suc same)) (λ later. inr (omega (arith, later))) (first_or_later a o (omega (arith, le)))

head_is : (x y : ℕ) (xs ys : List ℕ) → (x ∷ xs) ≡ (y ∷ ys) → x ≡ y
head_is x y xs ys h = cc (h)

tail_is : (x y : ℕ) (xs ys : List ℕ) → (x ∷ xs) ≡ (y ∷ ys) → xs ≡ ys
tail_is x y xs ys h = cc (h)

-- the handles of a range before one are all those from the first on
before_in : (n a : ℕ) (before : List ℕ) (e : ℕ) (after : List ℕ) → range_with_len a n ≡ before ++ (e ∷ after) → (o : ℕ) → a ≤ o → o < e → Contains before o
before_in zero a [] e after is o ge lt = let x = is in absurd (cc)
before_in zero a (b ∷ bs) e after is o ge lt = let x = is in absurd (cc)
before_in (suc n) a [] e after is o ge lt = (let same = head_is a e (range_with_len (a + 1) n) after is in absurd (omega (arith, same, ge, lt)))
before_in (suc n) a (b ∷ bs) e after is o ge lt =
    let rest = range_with_len (a + 1) n in
    let tail = bs ++ (e ∷ after) in
    ⊎_elim
    (λ same. subst (λ x. Contains (x ∷ bs) o) (sym same ∙ head_is a b rest tail is) (first o bs))
    (λ later. behind b o bs (before_in n (a + 1) bs e after (tail_is a b rest tail is) o later lt))
    (first_or_later a o ge)

-- ---- introductions

among : (before : List ℕ) (e : ℕ) (after : List ℕ) → Contains (before ++ (e ∷ after)) e
among before e after = Contains-append_right before (e ∷ after) e (first e after)

held_answer : (o : Option ℕ) (e : ℕ) → Contains (option_to_list o) e → o ≡ Some e
held_answer None e held = none_held e held
held_answer (Some x) e held = ap Some (sym (one x e held))

module _ (f : PlainFunction) (ok : StrictOK f) (quiet : AnswersNameNothing f) where
  in_scope : (p : Place) (o : ℕ) → InStrictScope f p o → PreEmitted f o ⊎ Contains (visible_by sure_level [] p f.body) o
  in_scope p o scope = (strict_by_walk_lem f p o).0 scope

  -- a result has none
  of_answer : (p : Place) (s : PlainStatement) → OccursAt f.body p s → (before : List ℕ) (e : ℕ) (after : List ℕ) → option_to_list (statement_result s) ≡ before ++ (e ∷ after)
      → (x : PlainExpression) → slice_get f.expressions e ≡ Some x → (o : ℕ) → Contains (expression_operands x) o → ⊥
  of_answer p s stands before e after is x at o held =
      let answer : statement_result s ≡ Some e = held_answer (statement_result s) e (subst (λ xs. Contains xs e) (sym is) (among before e after)) in
      none_held o (subst (λ xs. Contains xs o) (quiet p s stands e answer x at) held)

  no_split : {A : Type 0} (before : List ℕ) (e : ℕ) (after : List ℕ) → [] ≡ before ++ (e ∷ after) → A
  no_split before e after is = none_held e (subst (λ xs. Contains xs e) (sym is) (among before e after))

  introduced_scoped : (p : Place) (s : PlainStatement) → OccursAt f.body p s → (before : List ℕ) (e : ℕ) (after : List ℕ) → introduced s ≡ before ++ (e ∷ after)
      → (x : PlainExpression) → slice_get f.expressions e ≡ Some x → (o : ℕ) → Contains (expression_operands x) o → PreEmitted f o ⊎ Contains (visible_by sure_level [] p f.body ++ before) o
  introduced_scoped p (emit first end) stands before e after is x at o held =
      let there = in_range (end - first) first e (subst (λ xs. Contains xs e) (sym is) (among before e after)) in
      ⊎_elim
      (λ own. inr (Contains-append_right (visible_by sure_level [] p f.body) before o (before_in (end - first) first before e after is o own.0 own.1)))
      (λ scope. ⊎_elim (λ pre. inl pre) (λ carried. inr (Contains-append_left (visible_by sure_level [] p f.body) before o carried)) (in_scope p o scope))
      (ok.emitted p first end stands e there.0 (below_end first end e there.0 there.1) x at o held)
    where
      below_end : (first end e : ℕ) → first ≤ e → e < first + (end - first) → e < end
      below_end first end e ge lt = omega (arith, ge, lt)
  introduced_scoped p (block b) stands before e after is x at o held = no_split before e after is
  introduced_scoped p (if_ test accept reject) stands before e after is x at o held = no_split before e after is
  introduced_scoped p (switch selector cases) stands before e after is x at o held = no_split before e after is
  introduced_scoped p (loop body continuing break_if) stands before e after is x at o held = no_split before e after is
  introduced_scoped p break stands before e after is x at o held = no_split before e after is
  introduced_scoped p continue stands before e after is x at o held = no_split before e after is
  introduced_scoped p (return value) stands before e after is x at o held = no_split before e after is
  introduced_scoped p kill stands before e after is x at o held = no_split before e after is
  introduced_scoped p (operation a) stands before e after is x at o held = absurd (of_answer p (operation a) stands before e after is x at o held)
  introduced_scoped p (call function arguments result) stands before e after is x at o held = absurd (of_answer p (call function arguments result) stands before e after is x at o held)

pub strict_suffices : StrictSuffices
strict_suffices f ok quiet = (
  record { at_spots = λ p o needs. in_scope f ok quiet p o (ok.used p o needs); at_introductions = λ p s stands before e after is x at o held. introduced_scoped f ok quiet p s stands before e after is x at o held },
  record { at_spots = λ p o checks. in_scope f ok quiet p o (ok.used p o (checked_is_needed (spot_at p f.body) o checks)); at_introductions = λ p s stands before e after is x at o held. none_held o held },
)
