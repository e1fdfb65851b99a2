-- What a walk requires along a body is what is required at each place, and what it finds wrong is wrong at one.
use Rattle.std.proofs.Common.{◌≡◌, ℕ, zero, suc, inl, inr, Bool, List, [], ◌++◌, All, Some, None, Contains, refl, sym, ◌∙◌, subst, arith}
use Rattle.std.proofs.lemmas.List.{append-nil, append_assoc}
use Rattle.std.proofs.lemmas.List.Elements.{All-nil}
use Rattle.ir_blocks.specs.judged.Places.{Place, here, later, inside, condition, Spot, nothing, statement, loop_condition, condition_of, spot_at}
use Rattle.ir_blocks.specs.judged.Plain.{PlainStatement, emit, block, if_, switch, loop, break, continue, return, kill, operation, call, PlainBlock, stop, next, PlainCases, no_case, case}
use Rattle.ir_blocks.specs.judged.Shapes.{Part, inner, accepting, rejecting, case_at, loop_body, loop_continuing, shape_of, part_of, case_body}
use Rattle.ir_items.specs.judged.Plain.{PlainFunction}
use Rattle.spec_statements.proofs.AnswerLaws.{answered_elsewhere}
use Rattle.spec_statements.specs.found.Answered.{answered_in, answered_at, answered_before, answered_before_case, answered_before_part}
use Rattle.spec_statements.specs.judged.Results.{AnswersBy}
use Rattle.spec_statements.specs.judged.Tables.{checked_at, introduced, introduced_at}
use Rattle.spec_statements.specs.judged.Visible.{top_level, entering, at_condition, visible}
use Rattle.function_body_checks.specs.Carried.{Fine, Known, AllFine, FineWithin, FineInCases, answer_at}

module _ (f : PlainFunction) (asked : Bool) where
  -- ---- fine along a body, so fine at each place

  not_some : {A : Type 0} (e : ℕ) → None ≡ Some e → A
  not_some e is = let x = is in absurd (cc)

  -- where nothing comes into scope and nothing is answered
  quiet : (spot : Spot) (scope answered : List ℕ) → All (Known f scope) (checked_at spot) → introduced_at spot ≡ [] → answer_at spot ≡ None → Fine f asked spot scope answered
  quiet spot scope answered used none silent = record {
    used = used;
    fresh = subst (All (λ e. ¬ Known f scope e)) (sym none) (All-nil (λ e. ¬ Known f scope e));
    once = λ e is. not_some e (sym silent ∙ is);
    asks = λ e is. not_some e (sym silent ∙ is);
  }

  nothing_fine : (scope answered : List ℕ) → Fine f asked nothing scope answered
  nothing_fine scope answered = quiet nothing scope answered (All-nil (Known f scope)) refl refl

  own_fine : (scope answered : List ℕ) (s : PlainStatement) → FineWithin f asked scope answered s → Fine f asked (statement s) scope answered
  own_fine scope answered (emit first end) h = h
  own_fine scope answered (block b) h = quiet (statement (block b)) scope answered (All-nil (Known f scope)) refl refl
  own_fine scope answered (if_ test accept reject) h = quiet (statement (if_ test accept reject)) scope answered h.0 refl refl
  own_fine scope answered (switch selector cases) h = quiet (statement (switch selector cases)) scope answered h.0 refl refl
  own_fine scope answered (loop body continuing break_if) h = quiet (statement (loop body continuing break_if)) scope answered (All-nil (Known f scope)) refl refl
  own_fine scope answered break h = h
  own_fine scope answered continue h = h
  own_fine scope answered (return value) h = h
  own_fine scope answered kill h = h
  own_fine scope answered (operation a) h = h
  own_fine scope answered (call function arguments answer) h = h

  -- with nothing answered before the part
  same_answers : (scope answered : List ℕ) (b : PlainBlock) → AllFine f asked scope answered b → AllFine f asked scope (answered ++ []) b
  same_answers scope answered b h = subst (λ xs. AllFine f asked scope xs b) (sym (append-nil answered)) h

  case_fine : (scope answered : List ℕ) (cs : PlainCases) (k : ℕ) → FineInCases f asked scope answered cs → AllFine f asked scope (answered ++ answered_before_case cs k) (case_body cs k)
  case_fine scope answered no_case k h = tt
  case_fine scope answered (case value body falls rest) zero h = same_answers scope answered body h.0
  case_fine scope answered (case value body falls rest) (suc k) h =
      subst (λ xs. AllFine f asked scope xs (case_body rest k)) (append_assoc answered (answered_in body) (answered_before_case rest k)) (case_fine scope (answered ++ answered_in body) rest k h.1)

  part_fine : (scope answered : List ℕ) (s : PlainStatement) (part : Part) → FineWithin f asked scope answered s → AllFine f asked (entering scope s part) (answered ++ answered_before_part s part) (part_of (shape_of s) part)
  part_fine scope answered (emit first end) part h = tt
  part_fine scope answered (block b) inner h = same_answers scope answered b h
  part_fine scope answered (block b) _ h = tt
  part_fine scope answered (if_ test accept reject) accepting h = same_answers scope answered accept h.1.0
  part_fine scope answered (if_ test accept reject) rejecting h = h.1.1
  part_fine scope answered (if_ test accept reject) _ h = tt
  part_fine scope answered (switch selector cases) (case_at k) h = case_fine scope answered cases k h.1
  part_fine scope answered (switch selector cases) _ h = tt
  part_fine scope answered (loop body continuing break_if) loop_body h = same_answers scope answered body h.0
  part_fine scope answered (loop body continuing break_if) loop_continuing h = h.1.0
  part_fine scope answered (loop body continuing break_if) _ h = tt
  part_fine scope answered break part h = tt
  part_fine scope answered continue part h = tt
  part_fine scope answered (return value) part h = tt
  part_fine scope answered kill part h = tt
  part_fine scope answered (operation a) part h = tt
  part_fine scope answered (call function arguments answer) part h = tt

  no_condition : (scope answered : List ℕ) → Fine f asked (loop_condition None) scope answered
  no_condition scope answered = quiet (loop_condition None) scope answered (All-nil (Known f scope)) refl refl

  condition_fine : (scope answered : List ℕ) (s : PlainStatement) → FineWithin f asked scope answered s → Fine f asked (loop_condition (condition_of (shape_of s))) (at_condition scope s) (answered ++ answered_at s)
  condition_fine scope answered (emit first end) h = no_condition _ _
  condition_fine scope answered (block b) h = no_condition _ _
  condition_fine scope answered (if_ test accept reject) h = no_condition _ _
  condition_fine scope answered (switch selector cases) h = no_condition _ _
  condition_fine scope answered (loop body continuing break_if) h = quiet (loop_condition break_if) _ _ h.1.1 refl refl
  condition_fine scope answered break h = no_condition _ _
  condition_fine scope answered continue h = no_condition _ _
  condition_fine scope answered (return value) h = no_condition _ _
  condition_fine scope answered kill h = no_condition _ _
  condition_fine scope answered (operation a) h = no_condition _ _
  condition_fine scope answered (call function arguments answer) h = no_condition _ _

  pub fine_at : (p : Place) (scope answered : List ℕ) (b : PlainBlock) → AllFine f asked scope answered b → Fine f asked (spot_at p b) (visible scope p b) (answered_before answered p b)
  fine_at here scope answered stop h = nothing_fine scope answered
  fine_at here scope answered (next s rest) h = own_fine scope answered s h.0
  fine_at (later p) scope answered stop h = nothing_fine scope answered
  fine_at (later p) scope answered (next s rest) h = fine_at p (scope ++ introduced s) (answered ++ answered_at s) rest h.1
  fine_at (inside part p) scope answered stop h = nothing_fine scope answered
  fine_at (inside part p) scope answered (next s rest) h =
      fine_at p (entering scope s part) (answered ++ answered_before_part s part) (part_of (shape_of s) part) (part_fine scope answered s part h.0)
  fine_at condition scope answered stop h = nothing_fine scope answered
  fine_at condition scope answered (next s rest) h = condition_fine scope answered s h.0

-- ---- by what a body answers

in_stop : (p : Place) (e : ℕ) → AnswersBy stop p e → ⊥
in_stop here e by = let x = by.1 in cc
in_stop (later p) e by = let x = by.1 in cc
in_stop (inside part p) e by = let x = by.1 in cc
in_stop condition e by = let x = by.1 in cc

in_block : (b : PlainBlock) (q : Place) (e : ℕ) → AnswersBy (next (block b) stop) q e → (p : Place) × AnswersBy b p e
in_block b here e by = let x = by.1 in let y = by.2 in absurd (cc)
in_block b (later q) e by = absurd (in_stop q e by)
in_block b (inside inner q) e by = (q, by)
in_block b (inside accepting q) e by = absurd (in_stop q e by)
in_block b (inside rejecting q) e by = absurd (in_stop q e by)
in_block b (inside (case_at k) q) e by = absurd (in_stop q e by)
in_block b (inside loop_body q) e by = absurd (in_stop q e by)
in_block b (inside loop_continuing q) e by = absurd (in_stop q e by)
in_block b condition e by = let x = by.1 in absurd (cc)

no_member : {A : Type 0} (e : ℕ) → Contains [] e → A
no_member e held = absurd (omega (arith, held.1))

pub answering : (b : PlainBlock) (e : ℕ) → Contains (answered_in b) e → (p : Place) × AnswersBy b p e
answering b e held = elim (answered_elsewhere (later here) (next (block b) stop) [] e held) [
  | inl none ↦ no_member e none
  | inr found ↦ in_block b found.place e found.answers
]
