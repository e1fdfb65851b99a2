-- An invariant that holds where events arise holds of all events of a run.
use Rattle.std.proofs.Common.{◌≡◌, ℕ, zero, suc, ℤ, pos, Bool, true, false, ◌||◌, IsTrue, List, [], ◌∷◌, ◌++◌, inl, inr, ⊎_elim, map, Option, Some, None, Contains, slice_get, refl, sym, ap, subst, append_assoc, ◌∙◌, true≢false}
use Rattle.std.specs.List.{AllByRecursion, flat_map}
use Rattle.std.specs.Ordering.{int_eq}
use Rattle.std.proofs.lemmas.Bool.{or_left, or_right}
use Rattle.std.proofs.lemmas.List.Elements.{Contains-append_left, Contains-append_right, Contains-append_cases, Contains-push}
use Rattle.ir_kinds.specs.declared.values.SwitchValue.{SwitchValue}
use Rattle.ir_blocks.specs.judged.Plain.{PlainStatement, emit, block, if_, switch, loop, break, continue, return, kill, operation, call, PlainBlock, stop, next, PlainCases, no_case, case}
use Rattle.ir_blocks.specs.judged.Shapes.{Exit, breaks, continues, returns, shape_of, exit_of, inner, accepting, rejecting, case_at, case_body, loop_body, loop_continuing}
use Rattle.ir_blocks.specs.judged.Places.{Place, here, later, inside, condition, Spot, statement, loop_condition, spot_at}
use Rattle.ir_items.specs.judged.Plain.{PlainFunction, PlainModule}
use Rattle.spec_expressions.specs.judged.StatementNames.{statement_operands}
use Rattle.spec_statements.specs.judged.Tables.{introduced, introduced_at}
use Rattle.spec_statements.specs.judged.Visible.{top_level}
use Rattle.spec_statements.proofs.ScopeLaws.{none_held}
use Rattle.spec_runs.specs.judged.Events.{Event, executed, introduced_expression, used, passed, returned, fell_off}
use Rattle.spec_runs.specs.judged.Reached.{reached_from}
use Rattle.spec_statements.specs.found.SureLevel.{visible_by, holds_continue_in, holds_continue, holds_continue_in_cases}
use Rattle.spec_runs.specs.judged.Scoping.{UsedOperands, Scoping, IsLawful, AreUsable}
use Rattle.spec_runs.specs.judged.Machine.{Frame, Configuration, Completion, normal, by_break, by_continue, by_return, halted, Outcome, completes, happen, step, answered, mentioned_at, mentions, uses, introduced_operands, begins, introduces_one, introduces, leave_scope, sequence, Loop, Task, in_block, in_loop, Evaluation, taken_branch, is_value, is_default, Cases, either_cases, from_first, unless_none, chosen, fall, eval_cases, at_switch, leave_switch, next_turn, stay_or_leave, eval_condition, after_continuing, eval_continuing, after_body, eval_turn, callee_frame, enters, leave_call, eval_call, eval_statement, eval_task, eval, finish, entry_frame, initial}
use Rattle.spec_runs.specs.found.Invariants.{IsInvariant, InvariantsHold}
use Rattle.spec_runs.proofs.Control.{Control, control_of, enter, control_at, allows, may_allowed}

-- ---- lists

pub all-append : {A : Type 0} (P : A → Type 0) (xs ys : List A) → AllByRecursion P xs → AllByRecursion P ys → AllByRecursion P (xs ++ ys)
all-append P [] ys p q = q
all-append P (x ∷ xs) ys p q = (p.0, all-append P xs ys p.1 q)

pub all-flat_map : {X A : Type 0} (P : A → Type 0) (f : X → List A) (xs : List X) → ((x : X) → AllByRecursion P (f x)) → AllByRecursion P (flat_map f xs)
all-flat_map P f [] p = tt
all-flat_map P f (x ∷ xs) p = all-append P (f x) (flat_map f xs) (p x) (all-flat_map P f xs p)

pub first_held : (e : ℕ) (es : List ℕ) → Contains (e ∷ es) e
first_held e es = Contains-append_left (e ∷ []) es e (Contains-push [] e)

pub more_held : (e x : ℕ) (es : List ℕ) → Contains es x → Contains (e ∷ es) x
more_held e x es held = Contains-append_right (e ∷ []) es x held

append_nothing : (xs : List ℕ) → xs ++ [] ≡ xs
append_nothing [] = refl
append_nothing (x ∷ xs) = ap (λ ys. x ∷ ys) (append_nothing xs)

-- ---- the places of a block

-- This statement is at the place q of f's body, this is in scope, and it may leave its block so.
record Safe (g : Scoping) (f : PlainFunction) (q : Place) (spot : Spot) (scope : List ℕ) (c : Control) : Type 0 where
  pub stands : spot_at q f.body ≡ spot
  pub scoped : visible_by g.level [] q f.body ≡ scope
  pub may : (s : PlainStatement) (exit : Exit) → spot ≡ statement s → exit_of (shape_of s) ≡ Some exit → IsTrue (allows c exit)

abbrev IsSafe : Scoping → PlainFunction → (Place → Place) → List ℕ → Control → PlainBlock → Type 0
IsSafe g f at outer c b = (p : Place) → Safe g f (at p) (spot_at p b) (visible_by g.level outer p b) (control_at c p)

record AreSafe (g : Scoping) (f : PlainFunction) (at : ℕ → Place → Place) (outer : List ℕ) (c : Control) (cases : PlainCases) : Type 0 where
  pub each : (n : ℕ) → IsSafe g f (at n) outer c (case_body cases n)

-- a loop: its body, its continuing block and its condition
record LoopSafe (g : Scoping) (f : PlainFunction) (outer : List ℕ) (c : Control) (l : Loop) : Type 0 where
  pub turn : IsSafe g f (λ p. l.at (inside loop_body p)) outer (enter loop_body c) l.body
  pub again : IsSafe g f (λ p. l.at (inside loop_continuing p)) (outer ++ g.level l.body) (enter loop_continuing c) l.continuing
  pub asked : Safe g f (l.at condition) (loop_condition l.break_if) ((outer ++ g.level l.body) ++ top_level l.continuing) c

module _ (g : Scoping) (f : PlainFunction) (outer : List ℕ) (c : Control) where
  -- the selected cases are cases of the switch, and one of them may continue the loop only if one of all may
  record FromCases (all : PlainCases) (x : Cases) : Type 0 where
    pub safe : AreSafe g f x.at outer c x.cases
    pub goes : IsTrue (holds_continue_in_cases x.cases) → IsTrue (holds_continue_in_cases all)

  safe_either : (all : PlainCases) (b : Bool) (one other : Cases) → FromCases all one → FromCases all other → FromCases all (either_cases b one other)
  safe_either all true one other p q = p
  safe_either all false one other p q = q

  safe_first : (all : PlainCases) (passes : SwitchValue → Bool) (at : ℕ → Place → Place) (cases : PlainCases) → AreSafe g f at outer c cases → (IsTrue (holds_continue_in_cases cases) → IsTrue (holds_continue_in_cases all)) → FromCases all (from_first passes at cases)
  safe_first all passes at no_case a goes = record { safe = a; goes = goes }
  safe_first all passes at (case value body falls rest) a goes =
      safe_either all (passes value) (record { at = at; cases = case value body falls rest }) (from_first passes (λ n. at (suc n)) rest) (record { safe = a; goes = goes })
      (safe_first all passes (λ n. at (suc n)) rest (record { each = λ n. a.each (suc n) }) (λ more. goes (or_right (holds_continue_in body) _ more)))

  safe_unless : (all cases : PlainCases) (one other : Cases) → FromCases all one → FromCases all other → FromCases all (unless_none cases one other)
  safe_unless all no_case one other p q = q
  safe_unless all (case value body falls rest) one other p q = p

  safe_chosen : (a : ℤ) (at : ℕ → Place → Place) (cases : PlainCases) → AreSafe g f at outer c cases → FromCases cases (chosen a at cases)
  safe_chosen a at cases safe =
      let one = from_first (λ v. is_value v a) at cases in
      safe_unless cases one.cases one (from_first is_default at cases) (safe_first cases (λ v. is_value v a) at cases safe (λ goes. goes)) (safe_first cases is_default at cases safe (λ goes. goes))

-- What a task introduces and keeps, and whether it may continue the enclosing loop.
record Leaving : Type 0 where
  made : List ℕ
  left : List ℕ
  goes : Bool

abbrev leaving : Scoping → Task → Leaving
leaving g (in_block at b) = record { made = top_level b; left = g.level b; goes = holds_continue_in b }
leaving g (in_loop l) = record { made = []; left = []; goes = false }

module _ (u : UsedOperands) (g : Scoping) (lawful : IsLawful g) (m : PlainModule) (Fine : Frame → Type 0) (P : Event → Type 0) (keeps : IsInvariant u g m Fine P) where
  abbrev Good : Configuration → Type 0
  Good now = AllByRecursion P now.events

  good_happen : (events : List Event) (now : Configuration) → Good now → AllByRecursion P events → Good (happen events now)
  good_happen events now q h = all-append P now.events events q h

  safe_body : (frame : Frame) → Fine frame → IsSafe g frame.function (λ p. p) [] (control_of []) frame.function.body
  safe_body frame fine p = record { stands = refl; scoped = refl; may = λ s exit stands exits. may_allowed exit p (keeps.control frame fine p s exit stands exits) }

  module _ (frame : Frame) (fine : Fine frame) where
    abbrev f : PlainFunction
    f = frame.function

    -- all of these are usable
    abbrev Covers : List ℕ → Configuration → Type 0
    Covers scope now = AreUsable g f now.live now.skipped scope

    -- how a statement may complete, if this is in scope before it
    abbrev EndsOne : (outer : List ℕ) → (goes : Bool) → Control → Completion → Configuration → Type 0
    EndsOne outer goes c normal now = Covers outer now
    EndsOne outer goes c by_break now = IsTrue c.may_break
    EndsOne outer goes c (by_continue left_out) now = IsTrue c.may_continue × IsTrue goes × Covers outer now
    EndsOne outer goes c (by_return value) now = IsTrue c.may_return × P (returned f value)
    EndsOne outer goes c halted now = Unit {0}

    -- how a task may complete: what a continue left out is then skipped
    abbrev Ends : (outer : List ℕ) → Leaving → Control → Completion → Configuration → Type 0
    Ends outer x c normal now = Covers (outer ++ x.made) now
    Ends outer x c by_break now = IsTrue c.may_break
    Ends outer x c (by_continue left_out) now = IsTrue c.may_continue × IsTrue x.goes × Covers (outer ++ x.left) (record now { skipped = now.skipped ++ left_out })
    Ends outer x c (by_return value) now = IsTrue c.may_return × P (returned f value)
    Ends outer x c halted now = Unit {0}

    record MeetsOne (outer : List ℕ) (goes : Bool) (c : Control) (r : Outcome) : Type 0 where
      good : Good r.after
      ends : EndsOne outer goes c r.completion r.after

    record Meets (outer : List ℕ) (x : Leaving) (c : Control) (r : Outcome) : Type 0 where
      pub good : Good r.after
      pub ends : Ends outer x c r.completion r.after

    abbrev TaskOK : Task → List ℕ → Control → Type 0
    TaskOK (in_block at b) outer c = IsSafe g f at outer c b
    TaskOK (in_loop l) outer c = LoopSafe g f outer c l

    record Sound (go : Evaluation) : Type 0 where
      pub at : (task : Task) (outer : List ℕ) (c : Control) (now : Configuration) → TaskOK task outer c → Covers outer now → Good now → Meets outer (leaving g task) c (go task now)

    -- ---- scopes

    cover_front : (outer more : List ℕ) (now : Configuration) → Covers (outer ++ more) now → Covers outer now
    cover_front outer more now v = record { each = λ e held. v.each e (Contains-append_left outer more e held) }

    cover_nothing : (outer : List ℕ) (now : Configuration) → Covers outer now → Covers (outer ++ []) now
    cover_nothing outer now v = record { each = λ e held. ⊎_elim (λ o. v.each e o) (λ n. none_held e n) (Contains-append_cases outer [] e held) }

    -- usable stays usable if more is skipped
    cover_skipped : (outer more : List ℕ) (now : Configuration) → Covers outer now → Covers outer (record now { skipped = now.skipped ++ more })
    cover_skipped outer more now v = record {
      each = λ e held. ⊎_elim (λ a. inl a) (λ k. inr (⊎_elim (λ l. inl l) (λ s. inr (s.0, Contains-append_left now.skipped more e s.1)) k)) (v.each e held);
    }

    -- a statement continues the loop: what the block keeps after it may be skipped
    cover_left_out : (s : PlainStatement) (rest : PlainBlock) (outer : List ℕ) (now : Configuration) → IsTrue (holds_continue s) → Covers outer now → Covers (outer ++ g.level (next s rest)) (record now { skipped = now.skipped ++ (introduced s ++ top_level rest) })
    cover_left_out s rest outer now goes v = record {
      each = λ e held. ⊎_elim ((cover_skipped outer (introduced s ++ top_level rest) now v).each e)
          (λ n. inr (inr (lawful.skips s rest e goes n, Contains-append_right now.skipped (introduced s ++ top_level rest) e (lawful.leaves (next s rest) e n))))
          (Contains-append_cases outer (g.level (next s rest)) e held);
    }

    -- what a block keeps is introduced by its first statement, or kept by the others
    cover_first : (s : PlainStatement) (rest : PlainBlock) (outer : List ℕ) (now : Configuration) → Covers ((outer ++ introduced s) ++ g.level rest) now → Covers (outer ++ g.level (next s rest)) now
    cover_first s rest outer now v = record {
      each = λ e held. (let w = subst (λ xs. Covers xs now) (append_assoc outer (introduced s) (g.level rest)) v in
          ⊎_elim (λ o. w.each e (Contains-append_left outer _ e o)) (λ n. w.each e (Contains-append_right outer _ e (lawful.first s rest e n))) (Contains-append_cases outer (g.level (next s rest)) e held));
    }

    -- it keeps no more than it introduces
    cover_level : (b : PlainBlock) (outer : List ℕ) (now : Configuration) → Covers (outer ++ top_level b) now → Covers (outer ++ g.level b) now
    cover_level b outer now v = record {
      each = λ e held. ⊎_elim (λ o. v.each e (Contains-append_left outer _ e o)) (λ n. v.each e (Contains-append_right outer _ e (lawful.leaves b e n))) (Contains-append_cases outer (g.level b) e held);
    }

    -- introduced expressions are live
    cover_live : (scope : List ℕ) (e : ℕ) (now : Configuration) → Covers scope now → Covers (scope ++ (e ∷ [])) (introduces_one u frame e now)
    cover_live scope e now v = record {
      each = λ x held. ⊎_elim
          (λ o. ⊎_elim (λ a. inl a) (λ k. inr (⊎_elim (λ l. inl (Contains-append_left now.live (e ∷ []) x l)) (λ s. inr s) k)) (v.each x o))
          (λ n. inr (inl (Contains-append_right now.live (e ∷ []) x n)))
          (Contains-append_cases scope (e ∷ []) x held);
    }

    -- ---- events

    good_mentions : (es : List ℕ) → AllByRecursion P (mentions frame es)
    good_mentions es = all-flat_map P (λ e. mentioned_at frame (slice_get f.expressions e)) (flat_map (reached_from f) es) (keeps.mentions frame fine)

    good_used : (os : List ℕ) (live skipped : List ℕ) → ((o : ℕ) → Contains os o → P (used f live skipped o)) → AllByRecursion P (map (used f live skipped) os)
    good_used [] live skipped a = tt
    good_used (o ∷ os) live skipped a = (a o (first_held o os), good_used os live skipped (λ x held. a x (more_held o x os held)))

    -- the statement at a place uses its operands
    good_uses : (q : Place) (spot : Spot) (scope : List ℕ) (c : Control) (now : Configuration) → Safe g f q spot scope c → Covers scope now → Good now → Good (uses frame (u.at_spot spot) now)
    good_uses q spot scope c now a v h =
        good_happen (map (used f now.live now.skipped) (u.at_spot spot)) now h
        (good_used (u.at_spot spot) now.live now.skipped
        (λ o held. keeps.uses frame fine q now.live now.skipped (subst (AreUsable g f now.live now.skipped) (sym a.scoped) v) o (subst (λ x. Contains (u.at_spot x) o) (sym a.stands) held)))

    -- a statement starts
    good_begins : (s : PlainStatement) (q : Place) (scope : List ℕ) (c : Control) (now : Configuration) → Safe g f q (statement s) scope c → Covers scope now → Good now → Good (begins u frame q s now)
    good_begins s q scope c now a v h =
        let one : Configuration = happen (executed f q ∷ mentions frame (statement_operands s)) (record now { last = Some q }) in
        good_uses q (statement s) scope c one a v (good_happen _ (record now { last = Some q }) h (keeps.executes frame fine q s a.stands, good_mentions (statement_operands s)))

    -- and introduces its expressions, one after another
    record AreIntroduced (s : PlainStatement) (scope es : List ℕ) (now : Configuration) : Type 0 where
      pub good : Good (introduces u frame es now)
      pub there : Covers (scope ++ introduced s) (introduces u frame es now)

    good_introduces : (s : PlainStatement) (q : Place) (scope : List ℕ) (c : Control) → Safe g f q (statement s) scope c → (before es : List ℕ) → introduced s ≡ before ++ es → (now : Configuration) → Covers (scope ++ before) now → Good now → AreIntroduced s scope es now
    good_introduces s q scope c a before [] is now v h = record { good = h; there = subst (λ xs. Covers (scope ++ xs) now) (sym (is ∙ append_nothing before)) v }
    good_introduces s q scope c a before (e ∷ es) is now v h =
        let brought : Contains (introduced s) e = subst (λ xs. Contains xs e) (sym is) (Contains-append_right before (e ∷ es) e (first_held e es)) in
        let begun : Configuration = happen (introduced_expression f e ∷ mentions frame (e ∷ [])) now in
        let good_begun : Good begun = good_happen _ now h (keeps.introduces frame fine q e (subst (λ x. Contains (introduced_at x) e) (sym a.stands) brought), good_mentions (e ∷ [])) in
        let good_one : Good (introduces_one u frame e now) = good_happen _ begun good_begun (good_used (introduced_operands u (slice_get f.expressions e)) now.live now.skipped
        (λ o held. keeps.uses_of_introduced frame fine q s a.stands before e es is now.live now.skipped (subst (λ xs. AreUsable g f now.live now.skipped (xs ++ before)) (sym a.scoped) v) o held)) in
        let next_is : introduced s ≡ (before ++ (e ∷ [])) ++ es = is ∙ sym (append_assoc before (e ∷ []) es) in
        let there : Covers (scope ++ (before ++ (e ∷ []))) (introduces_one u frame e now) = subst (λ xs. Covers xs (introduces_one u frame e now)) (append_assoc scope before (e ∷ [])) (cover_live (scope ++ before) e now v) in
        let more = good_introduces s q scope c a (before ++ (e ∷ [])) es next_is (introduces_one u frame e now) there good_one in
        record { good = more.good; there = more.there }

    -- ---- parts

    -- a part ends, and the expressions live before it are live again
    leave_one : (outer : List ℕ) (x : Leaving) (goes : Bool) (c : Control) (start : Configuration) (r : Outcome) → (IsTrue x.goes → IsTrue goes) → Covers outer start → Meets outer x c r → MeetsOne outer goes c (leave_scope start r)
    leave_one outer x goes c start r on v met = record { good = met.good; ends = ends_so r.completion met.ends }
      where
        ends_so : (completion : Completion) → Ends outer x c completion r.after → EndsOne outer goes c completion (leave_scope start r).after
        ends_so normal e = v
        ends_so by_break e = e
        ends_so (by_continue left_out) e = (e.0, on e.1, v)
        ends_so (by_return value) e = e
        ends_so halted e = tt

    -- a switch: a `Break` completes it
    switch_one : (outer : List ℕ) (goes all : Bool) (c : Control) (start : Configuration) (r : Outcome) → (IsTrue goes → IsTrue all) → Covers outer start → MeetsOne outer goes (enter (case_at 0) c) r → MeetsOne outer all c (leave_switch start r)
    switch_one outer goes all c start r on v met = record { good = met.good; ends = ends_so r.completion met.ends }
      where
        ends_so : (completion : Completion) → EndsOne outer goes (enter (case_at 0) c) completion r.after → EndsOne outer all c (at_switch completion) (leave_switch start r).after
        ends_so normal e = v
        ends_so by_break e = v
        ends_so (by_continue left_out) e = (e.0, on e.1, v)
        ends_so (by_return value) e = e
        ends_so halted e = tt

    -- there is an answer, or the run is over
    answered_one : (outer : List ℕ) (goes : Bool) (c : Control) (answers : List ℤ) (now : Configuration) (go : ℤ → Configuration → Outcome) → Good now → ((a : ℤ) (more : List ℤ) → MeetsOne outer goes c (go a (record now { answers = more }))) → MeetsOne outer goes c (answered answers now go)
    answered_one outer goes c [] now go h met = record { good = h; ends = tt }
    answered_one outer goes c (a ∷ more) now go h met = met a more

    -- the cases of a switch
    fall_one : (outer : List ℕ) (one rest : Bool) (c : Control) (falls : Bool) (r : Outcome) (go : Configuration → Outcome) → MeetsOne outer one c r → ((s : Configuration) → Covers outer s → Good s → MeetsOne outer rest c (go s)) → MeetsOne outer (one || rest) c (fall falls r go)
    fall_one outer one rest c falls r go met more = by_falls falls
      where
        by_one : (completion : Completion) → EndsOne outer one c completion r.after → EndsOne outer (one || rest) c completion r.after
        by_one normal e = e
        by_one by_break e = e
        by_one (by_continue left_out) e = (e.0, or_left one rest e.1, e.2)
        by_one (by_return value) e = e
        by_one halted e = tt

        by_rest : (s : Outcome) → (completion : Completion) → EndsOne outer rest c completion s.after → EndsOne outer (one || rest) c completion s.after
        by_rest s normal e = e
        by_rest s by_break e = e
        by_rest s (by_continue left_out) e = (e.0, or_right one rest e.1, e.2)
        by_rest s (by_return value) e = e
        by_rest s halted e = tt

        goes_on_so : (completion : Completion) → EndsOne outer one c completion r.after → MeetsOne outer (one || rest) c (sequence [] completion r.after go)
        goes_on_so normal e = let next = more r.after e met.good in record { good = next.good; ends = by_rest (go r.after) (go r.after).completion next.ends }
        goes_on_so by_break e = record { good = met.good; ends = e }
        goes_on_so (by_continue left_out) e = record { good = met.good; ends = (e.0, or_left one rest e.1, e.2) }
        goes_on_so (by_return value) e = record { good = met.good; ends = e }
        goes_on_so halted e = record { good = met.good; ends = tt }

        by_falls : (b : Bool) → MeetsOne outer (one || rest) c (fall b r go)
        by_falls false = record { good = met.good; ends = by_one r.completion met.ends }
        by_falls true = goes_on_so r.completion met.ends

    cases_one : (go : Evaluation) → Sound go → (at : ℕ → Place → Place) (cases : PlainCases) (outer : List ℕ) (c : Control) (now : Configuration) → AreSafe g f at outer c cases → Covers outer now → Good now → MeetsOne outer (holds_continue_in_cases cases) c (eval_cases go at cases now)
    cases_one go sound at no_case outer c now a v h = record { good = h; ends = v }
    cases_one go sound at (case value body falls rest) outer c now a v h =
        fall_one outer (holds_continue_in body) (holds_continue_in_cases rest) c falls _ _ (leave_one outer (leaving g (in_block (at 0) body)) (holds_continue_in body) c now _ (λ goes. goes) v (sound.at (in_block (at 0) body) outer c now (a.each zero) v h))
        (λ s w q. cases_one go sound (λ n. at (suc n)) rest outer c s (record { each = λ n. a.each (suc n) }) w q)

  -- the invariant holds in each valid frame
  record SoundIn (go : Frame → Evaluation) : Type 0 where
    pub at : (frame : Frame) (fine : Fine frame) → Sound frame fine (go frame)

  module _ (go : Frame → Evaluation) (sound_in : SoundIn go) (frame : Frame) (fine : Fine frame) where
    sound : Sound frame fine (go frame)
    sound = sound_in.at frame fine

    abbrev Over : List ℕ → Configuration → Type 0
    Over scope now = Covers frame fine scope now

    -- a call
    call_one : (callee : PlainFunction) (arguments : List ℕ) → Fine (callee_frame frame callee arguments) → P (passed frame.function callee arguments) → (outer : List ℕ) (goes : Bool) (c : Control) (now : Configuration) → Over outer now → Good now → MeetsOne frame fine outer goes c (eval_call (Some callee) go frame arguments now)
    call_one callee arguments inner_fine passing outer goes c now v h =
        let start : Configuration = enters frame callee arguments now in
        let good_start : Good start = good_happen _ (record now { live = []; skipped = []; last = None }) h (passing, (keeps.enters called inner_fine, tt)) in
        let covers : Covers called inner_fine [] start = record { each = λ e held. none_held e held } in
        let met = (sound_in.at called inner_fine).at (in_block (λ p. p) callee.body) [] (control_of []) start (safe_body called inner_fine) covers good_start in
        ends_so r.completion r.after met.good met.ends
      where
        called : Frame
        called = callee_frame frame callee arguments

        r : Outcome
        r = go called (in_block (λ p. p) callee.body) (enters frame callee arguments now)

        ends_so : (completion : Completion) (end : Configuration) → Good end → Ends called inner_fine [] (leaving g (in_block (λ p. p) callee.body)) (control_of []) completion end → MeetsOne frame fine outer goes c (leave_call callee now completion end)
        ends_so normal end q e = record { good = good_happen (fell_off callee end.last ∷ []) end q (keeps.falls called inner_fine end.last, tt); ends = v }
        ends_so by_break end q e = absurd (true≢false (sym e))
        ends_so (by_continue left_out) end q e = absurd (true≢false (sym e.0))
        ends_so (by_return value) end q e = record { good = good_happen (returned callee value ∷ []) end q (e.1, tt); ends = v }
        ends_so halted end q e = record { good = q; ends = tt }

    called_one : (function : ℕ) (arguments : List ℕ) (result : Option ℕ) (p : Place) → spot_at p frame.function.body ≡ statement (call function arguments result) → (o : Option PlainFunction) → slice_get m.functions function ≡ o → (outer : List ℕ) (goes : Bool) (c : Control) (now : Configuration) → Over outer now → Good now → MeetsOne frame fine outer goes c (eval_call o go frame arguments now)
    called_one function arguments result p stands None found outer goes c now v h = record { good = h; ends = tt }
    called_one function arguments result p stands (Some callee) found outer goes c now v h =
        let fits = keeps.calls frame fine p function arguments result callee stands found in
        call_one callee arguments fits.0 fits.1 outer goes c now v h

    statement_one : (s : PlainStatement) (at : Place → Place) (rest : PlainBlock) (outer : List ℕ) (c : Control) (now : Configuration) → IsSafe g frame.function at outer c (next s rest) → Over outer now → Good now → MeetsOne frame fine outer (holds_continue s) c (eval_statement m go frame at s now)
    statement_one (emit first end) at rest outer c now a v h = record { good = h; ends = v }
    statement_one (block b) at rest outer c now a v h =
        leave_one frame fine outer _ (holds_continue_in b) c now _ (λ goes. goes) v (sound.at (in_block (λ p. at (inside inner p)) b) outer c now (λ p. a (inside inner p)) v h)
    statement_one (if_ test accept reject) at rest outer c now a v h =
        answered_one frame fine outer (holds_continue_in accept || holds_continue_in reject) c now.answers now _ h (λ n more. by_side (int_eq n (pos 0)) (record now { answers = more }) v h)
      where
        by_side : (rejects : Bool) (s : Configuration) → Over outer s → Good s → MeetsOne frame fine outer (holds_continue_in accept || holds_continue_in reject) c (leave_scope now (go frame (taken_branch rejects at accept reject) s))
        by_side true s w q = leave_one frame fine outer _ _ c now _ (or_right (holds_continue_in accept) (holds_continue_in reject)) v (sound.at (in_block (λ p. at (inside rejecting p)) reject) outer c s (λ p. a (inside rejecting p)) w q)
        by_side false s w q = leave_one frame fine outer _ _ c now _ (or_left (holds_continue_in accept) (holds_continue_in reject)) v (sound.at (in_block (λ p. at (inside accepting p)) accept) outer c s (λ p. a (inside accepting p)) w q)
    statement_one (switch selector cases) at rest outer c now a v h =
        answered_one frame fine outer (holds_continue_in_cases cases) c now.answers now _ h (λ n more.
        let s : Configuration = record now { answers = more } in
        let at_case : ℕ → Place → Place = λ k p. at (inside (case_at k) p) in
        let x = chosen n at_case cases in
        let from = safe_chosen g frame.function outer (enter (case_at 0) c) n at_case cases (record { each = λ k p. a (inside (case_at k) p) }) in
        switch_one frame fine outer _ _ c now _ from.goes v (cases_one frame fine (go frame) sound x.at x.cases outer (enter (case_at 0) c) s from.safe v h))
    statement_one (loop body continuing break_if) at rest outer c now a v h =
        let l : Loop = record { at = at; body = body; continuing = continuing; break_if = break_if } in
        let safe : LoopSafe g frame.function outer c l = record { turn = λ p. a (inside loop_body p); again = λ p. a (inside loop_continuing p); asked = a condition } in
        leave_one frame fine outer _ false c now _ (λ goes. goes) v (sound.at (in_loop l) outer c now safe v h)
    statement_one break at rest outer c now a v h = record { good = h; ends = (a here).may break breaks refl refl }
    statement_one continue at rest outer c now a v h = record { good = h; ends = ((a here).may continue continues refl refl, refl, v) }
    statement_one (return value) at rest outer c now a v h = record { good = h; ends = ((a here).may (return value) returns refl refl, keeps.returns frame fine (at here) value (a here).stands) }
    statement_one kill at rest outer c now a v h = record { good = h; ends = tt }
    statement_one (operation x) at rest outer c now a v h = record { good = h; ends = v }
    statement_one (call function arguments result) at rest outer c now a v h =
        called_one function arguments result (at here) (a here).stands (slice_get m.functions function) refl outer false c now v h

    -- a block: its first statement, and the rest
    next_meets : (s : PlainStatement) (at : Place → Place) (rest : PlainBlock) (outer : List ℕ) (c : Control) (now : Configuration) → IsSafe g frame.function at outer c (next s rest) → Over outer now → Good now
        → let r = eval_statement m go frame at s (begins u frame (at here) s now) in Meets frame fine outer (leaving g (in_block at (next s rest))) c (sequence (introduced s ++ top_level rest) r.completion r.after (λ end. go frame (in_block (λ p. at (later p)) rest) (introduces u frame (introduced s) end)))
    next_meets s at rest outer c now a v h =
        let begun : Configuration = begins u frame (at here) s now in
        let r = eval_statement m go frame at s begun in
        let met = statement_one s at rest outer c begun a v (good_begins frame fine s (at here) outer c now (a here) v h) in
        ends_so r.completion r.after met.good met.ends
      where
        others : Task
        others = in_block (λ p. at (later p)) rest

        rest_so : (r : Outcome) → Meets frame fine (outer ++ introduced s) (leaving g others) c r → Meets frame fine outer (leaving g (in_block at (next s rest))) c r
        rest_so r met = record { good = met.good; ends = by_completion r.completion met.ends }
          where
            by_completion : (completion : Completion) → Ends frame fine (outer ++ introduced s) (leaving g others) c completion r.after → Ends frame fine outer (leaving g (in_block at (next s rest))) c completion r.after
            by_completion normal e = subst (λ xs. Over xs r.after) (append_assoc outer (introduced s) (top_level rest)) e
            by_completion by_break e = e
            by_completion (by_continue left_out) e = (e.0, or_right (holds_continue s) (holds_continue_in rest) e.1, cover_first frame fine s rest outer (record r.after { skipped = r.after.skipped ++ left_out }) e.2)
            by_completion (by_return value) e = e
            by_completion halted e = tt

        ends_so : (completion : Completion) (end : Configuration) → Good end → EndsOne frame fine outer (holds_continue s) c completion end → Meets frame fine outer (leaving g (in_block at (next s rest))) c (sequence (introduced s ++ top_level rest) completion end (λ x. go frame others (introduces u frame (introduced s) x)))
        ends_so normal end q e =
            let brought = good_introduces frame fine s (at here) outer c (a here) [] (introduced s) refl end (cover_nothing frame fine outer end e) q in
            rest_so (go frame others (introduces u frame (introduced s) end)) (sound.at others (outer ++ introduced s) c (introduces u frame (introduced s) end) (λ p. a (later p)) brought.there brought.good)
        ends_so by_break end q e = record { good = q; ends = e }
        ends_so (by_continue left_out) end q e = record { good = q; ends = (e.0, or_left (holds_continue s) (holds_continue_in rest) e.1, cover_left_out frame fine s rest outer end e.1 e.2) }
        ends_so (by_return value) end q e = record { good = q; ends = e }
        ends_so halted end q e = record { good = q; ends = tt }

    -- an iteration
    module _ (l : Loop) (outer : List ℕ) (c : Control) (start : Configuration) (a : LoopSafe g frame.function outer c l) (v : Over outer start) where
      -- how the continuing block and the condition complete after the body
      abbrev Leaves : Outcome → Type 0
      Leaves r = Meets frame fine outer (leaving g (in_loop l)) c (leave_scope start r)

      leaves_normal : (now : Configuration) → Good now → Leaves (completes normal now)
      leaves_normal now h = record { good = h; ends = cover_nothing frame fine outer start v }

      leaves_halted : (now : Configuration) → Good now → Leaves (completes halted now)
      leaves_halted now h = record { good = h; ends = tt }

      turns_again : (now : Configuration) → Good now → Leaves (next_turn u frame (go frame) l start now)
      turns_again now h = ends_so (next_turn u frame (go frame) l start now) (sound.at (in_loop l) outer c (record now { live = start.live; skipped = start.skipped }) a v h)
        where
          ends_so : (r : Outcome) → Meets frame fine outer (leaving g (in_loop l)) c r → Leaves r
          ends_so r met = record { good = met.good; ends = by_completion r.completion met.ends }
            where
              by_completion : (completion : Completion) → Ends frame fine outer (leaving g (in_loop l)) c completion r.after → Ends frame fine outer (leaving g (in_loop l)) c completion (leave_scope start r).after
              by_completion normal e = cover_nothing frame fine outer start v
              by_completion by_break e = e
              by_completion (by_continue left_out) e = absurd (true≢false (sym e.1))
              by_completion (by_return value) e = e
              by_completion halted e = tt

      condition_leaves : (o : Option ℕ) → l.break_if ≡ o → (now : Configuration) → Over ((outer ++ g.level l.body) ++ top_level l.continuing) now → Good now → Leaves (eval_condition u frame (go frame) l start o now)
      condition_leaves None is now w h = turns_again now h
      condition_leaves (Some e) is now w h = by_answers now.answers
        where
          asked : Configuration
          asked = uses frame (u.at_spot (loop_condition (Some e))) now

          good_asked : Good asked
          good_asked = good_uses frame fine (l.at condition) (loop_condition (Some e)) _ c now (subst (λ x. Safe g frame.function (l.at condition) (loop_condition x) ((outer ++ g.level l.body) ++ top_level l.continuing) c) is a.asked) w h

          by_stay : (stays : Bool) (s : Configuration) → Good s → Leaves (stay_or_leave u frame (go frame) l start stays s)
          by_stay true s q = turns_again s q
          by_stay false s q = leaves_normal s q

          by_answers : (answers : List ℤ) → Leaves (answered answers asked (λ n s. stay_or_leave u frame (go frame) l start (int_eq n (pos 0)) s))
          by_answers [] = leaves_halted asked good_asked
          by_answers (n ∷ more) = by_stay (int_eq n (pos 0)) (record asked { answers = more }) good_asked

      continuing_leaves : (now : Configuration) → Over (outer ++ g.level l.body) now → Good now → Leaves (eval_continuing u frame (go frame) l start now)
      continuing_leaves now w h =
          let t : Task = in_block (λ p. l.at (inside loop_continuing p)) l.continuing in
          let r = go frame t now in
          let met = sound.at t (outer ++ g.level l.body) (enter loop_continuing c) now a.again w h in
          ends_so r.completion r.after met.good met.ends
        where
          ends_so : (completion : Completion) (end : Configuration) → Good end → Ends frame fine (outer ++ g.level l.body) (leaving g (in_block (λ p. l.at (inside loop_continuing p)) l.continuing)) (enter loop_continuing c) completion end → Leaves (after_continuing u frame (go frame) l start completion end)
          ends_so normal end q e = condition_leaves l.break_if refl end e q
          ends_so by_break end q e = absurd (true≢false (sym e))
          ends_so (by_continue left_out) end q e = absurd (true≢false (sym e.0))
          ends_so (by_return value) end q e = absurd (true≢false (sym e.0))
          ends_so halted end q e = leaves_halted end q

      turn_meets : Good start → Meets frame fine outer (leaving g (in_loop l)) c (eval_turn u frame (go frame) l start)
      turn_meets h =
          let t : Task = in_block (λ p. l.at (inside loop_body p)) l.body in
          let r = go frame t start in
          let met = sound.at t outer (enter loop_body c) start a.turn v h in
          ends_so r.completion r.after met.good met.ends
        where
          ends_so : (completion : Completion) (end : Configuration) → Good end → Ends frame fine outer (leaving g (in_block (λ p. l.at (inside loop_body p)) l.body)) (enter loop_body c) completion end → Leaves (after_body u frame (go frame) l start completion end)
          ends_so normal end q e = continuing_leaves end (cover_level frame fine l.body outer end e) q
          ends_so by_break end q e = leaves_normal end q
          ends_so (by_continue left_out) end q e = continuing_leaves (record end { skipped = end.skipped ++ left_out }) e.2 q
          ends_so (by_return value) end q e = record { good = q; ends = e }
          ends_so halted end q e = leaves_halted end q

    -- there is a step, or the run is over
    step_meets : (outer : List ℕ) (x : Leaving) (c : Control) (steps : ℕ) (now : Configuration) (then_go : Configuration → Outcome) → Good now → ((k : ℕ) → Meets frame fine outer x c (then_go (record now { steps = k }))) → Meets frame fine outer x c (step steps now then_go)
    step_meets outer x c zero now then_go h met = record { good = h; ends = tt }
    step_meets outer x c (suc k) now then_go h met = met k

    task_meets : (task : Task) (outer : List ℕ) (c : Control) (now : Configuration) → TaskOK frame fine task outer c → Over outer now → Good now → Meets frame fine outer (leaving g task) c (eval_task u m go frame task now)
    task_meets (in_block at stop) outer c now a v h = record { good = h; ends = cover_nothing frame fine outer now v }
    task_meets (in_block at (next s rest)) outer c now a v h = step_meets outer _ c now.steps now _ h (λ k. next_meets s at rest outer c (record now { steps = k }) a v h)
    task_meets (in_loop l) outer c now a v h = step_meets outer _ c now.steps now _ h (λ k. turn_meets l outer c (record now { steps = k }) a v h)

  eval_sound : (n : ℕ) → SoundIn (eval u m n)
  eval_sound zero = record { at = λ frame fine. record { at = λ task outer c now a v h. record { good = h; ends = tt } } }
  eval_sound (suc n) = record { at = λ frame fine. record { at = task_meets (eval u m n) (eval_sound n) frame fine } }

pub invariants_hold : InvariantsHold
invariants_hold u g lawful m Fine P keeps f fine answers n =
    let frame : Frame = entry_frame f in
    let start : Configuration = initial answers n in
    let r = eval u m (suc n) frame (in_block (λ p. p) f.body) start in
    let covers : Covers u g lawful m Fine P keeps frame fine [] start = record { each = λ e held. none_held e held } in
    let met = ((eval_sound u g lawful m Fine P keeps (suc n)).at frame fine).at (in_block (λ p. p) f.body) [] (control_of []) start (safe_body u g lawful m Fine P keeps frame fine) covers (keeps.enters frame fine, tt) in
    ends_so r.completion r.after met.good met.ends
  where
    ends_so : (completion : Completion) (end : Configuration) → AllByRecursion P end.events → Ends u g lawful m Fine P keeps (entry_frame f) fine [] (leaving g (in_block (λ p. p) f.body)) (control_of []) completion end → AllByRecursion P (finish f completion end)
    ends_so normal end h e = all-append P end.events (fell_off f end.last ∷ []) h (keeps.falls (entry_frame f) fine end.last, tt)
    ends_so by_break end h e = absurd (true≢false (sym e))
    ends_so (by_continue left_out) end h e = absurd (true≢false (sym e.0))
    ends_so (by_return value) end h e = all-append P end.events (returned f value ∷ []) h (e.1, tt)
    ends_so halted end h e = h
