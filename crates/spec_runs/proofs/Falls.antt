-- Control reaches the end of a function without open ends only after a break out of a final switch.
use Rattle.std.proofs.Common.{◌≡◌, ◌∙◌, ℕ, zero, suc, ℤ, pos, Bool, true, false, IsTrue, List, [], ◌∷◌, ◌++◌, ◌⊎◌, inl, inr, ⊎_elim, map, Option, Some, None, Contains, slice_get, refl, sym, subst, length, slice_index_or, ◌<◌, ◌+◌, true≢false, arith}
use Rattle.std.specs.Prelude.{IsSomeAnd}
use Rattle.std.specs.List.{AllByRecursion, flat_map}
use Rattle.std.specs.Ordering.{int_eq}
use Rattle.ir_kinds.specs.declared.values.SwitchValue.{SwitchValue}
use Rattle.ir_kinds.specs.declared.values.SwitchValue.TheVariants.{I32, U32, Default}
use Rattle.ir_blocks.specs.judged.Plain.{PlainStatement, emit, block, if_, switch, loop, break, continue, return, kill, operation, call, PlainBlock, stop, next, PlainCases, no_case, case}
use Rattle.ir_blocks.specs.judged.Shapes.{shape_of, Part, inner, accepting, rejecting, case_at, case_body, loop_body, loop_continuing}
use Rattle.ir_blocks.specs.judged.Places.{Place, here, later, inside, OccursAt, statement, loop_condition}
use Rattle.ir_blocks.specs.judged.Tails.{CaseEnds, goes_on, empty, after_last, further, in_tail}
use Rattle.ir_types.specs.judged.ExpressionPlain.{PlainExpression, plain}
use Rattle.ir_types.specs.declared.expressions.Expression.TheVariants.{GlobalVariable, ImageSample}
use Rattle.ir_items.specs.judged.Plain.{PlainFunction, PlainModule}
use Rattle.spec_expressions.specs.judged.StatementNames.{statement_operands}
use Rattle.spec_statements.specs.judged.Switches.{case_values, falls_at_end}
use Rattle.spec_statements.specs.judged.Tables.{introduced}
use Rattle.spec_statements.specs.judged.Visible.{top_level}
use Rattle.spec_runs.specs.found.Ended.{HasNoOpenEnd}
use Rattle.spec_runs.specs.judged.Events.{Event, entered, executed, introduced_expression, used, passed, returned, fell_off, escaped}
use Rattle.spec_runs.specs.judged.FinalSwitches.{BreaksFrom, break_here, break_later, break_inside, in_block as open_block, in_accept, in_reject, LeavesFinalSwitch, of_last, of_tail, of_rest}
use Rattle.spec_runs.specs.judged.Good.{FallsOK}
use Rattle.spec_runs.specs.judged.Machine.{Frame, Configuration, Completion, normal, by_break, by_continue, by_return, halted, Outcome, completes, happen, step, answered, pair_of, global_denoted, mentioned_at, mentions, uses, introduced_operands, begins, introduces_one, introduces, leave_scope, sequence, Loop, Task, in_block, in_loop, Evaluation, taken_branch, is_value, is_default, Cases, either_cases, from_first, unless_none, chosen, fall, eval_cases, at_switch, leave_switch, next_turn, stay_or_leave, eval_condition, after_continuing, eval_continuing, after_body, eval_turn, callee_frame, enters, leave_call, eval_call, eval_statement, eval_task, eval, finish, entry_frame, initial, trace_of}
use Rattle.spec_runs.specs.judged.Reached.{reached_from}
use Rattle.spec_runs.specs.judged.Scoping.{UsedOperands}
use Rattle.spec_runs.proofs.Invariance.{all-append, all-flat_map}

-- ---- other events

abbrev Good : Configuration → Type 0
Good now = AllByRecursion FallsOK now.events

any_used : (f : PlainFunction) (live skipped os : List ℕ) → AllByRecursion FallsOK (map (used f live skipped) os)
any_used f live skipped [] = tt
any_used f live skipped (o ∷ os) = (tt, any_used f live skipped os)

any_pair : (image sampler : Option ℕ) → AllByRecursion FallsOK (pair_of image sampler)
any_pair (Some image) (Some sampler) = (tt, tt)
any_pair (Some image) None = tt
any_pair None sampler = tt

any_mentioned : (frame : Frame) (o : Option PlainExpression) → AllByRecursion FallsOK (mentioned_at frame o)
any_mentioned frame (Some (plain (GlobalVariable g))) = (tt, tt)
any_mentioned frame (Some (plain (ImageSample image sampler gathers coordinate array_index offset level depth_ref clamp_to_edge))) = any_pair (global_denoted frame image) (global_denoted frame sampler)
any_mentioned frame _ = tt

any_mentions : (frame : Frame) (es : List ℕ) → AllByRecursion FallsOK (mentions frame es)
any_mentions frame es =
    all-flat_map FallsOK (λ e. mentioned_at frame (slice_get frame.function.expressions e)) (flat_map (reached_from frame.function) es) (λ e. any_mentioned frame (slice_get frame.function.expressions e))

happen_good : (events : List Event) (now : Configuration) → Good now → AllByRecursion FallsOK events → Good (happen events now)
happen_good events now g h = all-append FallsOK now.events events g h

good_uses : (frame : Frame) (os : List ℕ) (now : Configuration) → Good now → Good (uses frame os now)
good_uses frame os now g = happen_good _ now g (any_used frame.function now.live now.skipped os)

module _ (u : UsedOperands) (frame : Frame) where
  good_begins : (q : Place) (s : PlainStatement) (now : Configuration) → Good now → Good (begins u frame q s now)
  good_begins q s now g =
      let one : Configuration = happen (executed frame.function q ∷ mentions frame (statement_operands s)) (record now { last = Some q }) in
      good_uses frame (u.at_spot (statement s)) one (happen_good _ (record now { last = Some q }) g (tt, any_mentions frame (statement_operands s)))

  good_introduces : (es : List ℕ) (now : Configuration) → Good now → Good (introduces u frame es now)
  good_introduces [] now g = g
  good_introduces (e ∷ es) now g =
      let begun : Configuration = happen (introduced_expression frame.function e ∷ mentions frame (e ∷ [])) now in
      good_introduces es (introduces_one u frame e now) (good_uses frame (introduced_operands u (slice_get frame.function.expressions e)) begun (happen_good _ now g (tt, any_mentions frame (e ∷ []))))

  introduces_last : (es : List ℕ) (now : Configuration) → (introduces u frame es now).last ≡ now.last
  introduces_last [] now = refl
  introduces_last (e ∷ es) now = introduces_last es (introduces_one u frame e now)

-- ---- the selected cases

-- the remaining cases are the last of these
data From : (ℕ → Place → Place) → PlainCases → (ℕ → Place → Place) → PlainCases → Type 0 where
  from_here : {at : ℕ → Place → Place} {cases : PlainCases} → From at cases at cases
  from_later : {at other : ℕ → Place → Place} {value : SwitchValue} {body : PlainBlock} {falls : Bool} {rest cases : PlainCases} → From (λ n. at (suc n)) rest other cases → From at (case value body falls rest) other cases

record IsFound (at : ℕ → Place → Place) (cases : PlainCases) (x : Cases) : Type 0 where
  pub from : From at cases x.at x.cases
  pub ends : falls_at_end true x.cases ≡ false

first_found : (passes : SwitchValue → Bool) (at : ℕ → Place → Place) (cases : PlainCases) (falls : Bool) → falls_at_end falls cases ≡ false → ((from_first passes at cases).cases ≡ no_case) ⊎ IsFound at cases (from_first passes at cases)
first_found passes at no_case falls e = inl refl
first_found passes at (case value body f rest) falls e = by_either (passes value) (first_found passes (λ n. at (suc n)) rest f e)
  where
    further_on : Cases
    further_on = from_first passes (λ n. at (suc n)) rest

    by_either : (b : Bool) → (further_on.cases ≡ no_case) ⊎ IsFound (λ n. at (suc n)) rest further_on → ((either_cases b (record { at = at; cases = case value body f rest }) further_on).cases ≡ no_case) ⊎ IsFound at (case value body f rest) (either_cases b (record { at = at; cases = case value body f rest }) further_on)
    by_either true more = inr (record { from = from_here; ends = e })
    by_either false more = ⊎_elim (λ none. inl none) (λ found. inr (record { from = from_later found.from; ends = found.ends })) more

abbrev holds_case : PlainCases → Type 0
holds_case no_case = ⊥
holds_case (case value body falls rest) = Unit {0}

is_no_case : (cases : PlainCases) → holds_case cases → ¬ (cases ≡ no_case)
is_no_case cases h e = subst holds_case e h

default_held : (at : ℕ → Place → Place) (cases : PlainCases) → Contains (case_values cases) Default → holds_case (from_first is_default at cases).cases
default_held at no_case held = absurd (omega (arith, held.1))
default_held at (case Default body falls rest) held = tt
default_held at (case (I32 z) body falls rest) held = default_held (λ n. at (suc n)) rest (behind held.0 held.1 held.2)
  where
    behind : (k : ℕ) → k < length (I32 z ∷ case_values rest) → slice_index_or (I32 z ∷ case_values rest) k Default ≡ Default → Contains (case_values rest) Default
    behind zero lt e = absurd (cc (e))
    behind (suc k) lt e = (k, omega (arith, lt), e)
default_held at (case (U32 u) body falls rest) held = default_held (λ n. at (suc n)) rest (behind held.0 held.1 held.2)
  where
    behind : (k : ℕ) → k < length (U32 u ∷ case_values rest) → slice_index_or (U32 u ∷ case_values rest) k Default ≡ Default → Contains (case_values rest) Default
    behind zero lt e = absurd (cc (e))
    behind (suc k) lt e = (k, omega (arith, lt), e)

chosen_found : (a : ℤ) (at : ℕ → Place → Place) (cases : PlainCases) → Contains (case_values cases) Default → falls_at_end false cases ≡ false → IsFound at cases (chosen a at cases)
chosen_found a at cases default ends = by_one (from_first (λ v. is_value v a) at cases).cases refl
  where
    one : Cases
    one = from_first (λ v. is_value v a) at cases

    by_one : (x : PlainCases) → one.cases ≡ x → IsFound at cases (unless_none x one (from_first is_default at cases))
    by_one no_case e =
        ⊎_elim (λ none. absurd (is_no_case _ (default_held at cases default) none)) (λ found. found) (first_found is_default at cases false ends)
    by_one (case value body falls rest) e =
        ⊎_elim (λ none. absurd (subst holds_case (sym e ∙ none) tt)) (λ found. found) (first_found (λ v. is_value v a) at cases false ends)

-- ---- completions of blocks

-- the last executed statement is at such a place of the block
record LastIs (at : Place → Place) (Q : Place → Type 0) (now : Configuration) : Type 0 where
  pub place : Place
  pub last : now.last ≡ Some (at place)
  pub is : Q place

-- the switches of a block have a default, and their last cases don't fall through
pub record CasesEnd (cases : PlainCases) : Type 0 where
  pub default : Contains (case_values cases) Default
  pub ends : falls_at_end false cases ≡ false

abbrev pub SwitchesEnd : PlainBlock → Type 0
SwitchesEnd b = (p : Place) (selector : ℕ) (cases : PlainCases) → OccursAt b p (switch selector cases) → CasesEnd cases

abbrev EndsBlock : (Place → Place) → PlainBlock → (start : Configuration) → Completion → Configuration → Type 0
EndsBlock at b start normal now = (b ≡ stop → now.last ≡ start.last) × (HasNoOpenEnd b → LastIs at (LeavesFinalSwitch b) now)
EndsBlock at b start by_break now = LastIs at (BreaksFrom b) now
EndsBlock at b start (by_continue left_out) now = Unit {0}
EndsBlock at b start (by_return value) now = Unit {0}
EndsBlock at b start halted now = Unit {0}

-- no `Break` leaves a loop
abbrev EndsLoop : Completion → Type 0
EndsLoop normal = Unit {0}
EndsLoop by_break = ⊥
EndsLoop (by_continue left_out) = Unit {0}
EndsLoop (by_return value) = Unit {0}
EndsLoop halted = Unit {0}

abbrev EndsTask : Task → Configuration → Completion → Configuration → Type 0
EndsTask (in_block at b) start completion now = EndsBlock at b start completion now
EndsTask (in_loop l) start completion now = EndsLoop completion

-- a statement that is the last of its block, and one that isn't
abbrev EndsOne : (Place → Place) → PlainStatement → Completion → Configuration → Type 0
EndsOne at s normal now = HasNoOpenEnd (next s stop) → LastIs at (LeavesFinalSwitch (next s stop)) now
EndsOne at s by_break now = (rest : PlainBlock) → LastIs at (BreaksFrom (next s rest)) now
EndsOne at s (by_continue left_out) now = Unit {0}
EndsOne at s (by_return value) now = Unit {0}
EndsOne at s halted now = Unit {0}

abbrev EndsCases : (ℕ → Place → Place) → PlainCases → Completion → Configuration → Type 0
EndsCases at cases normal now = falls_at_end true cases ≡ false → ((k : ℕ) → CaseEnds cases k → HasNoOpenEnd (case_body cases k)) → (k : ℕ) × CaseEnds cases k × LastIs (at k) (LeavesFinalSwitch (case_body cases k)) now
EndsCases at cases by_break now = (k : ℕ) × LastIs (at k) (BreaksFrom (case_body cases k)) now
EndsCases at cases (by_continue left_out) now = Unit {0}
EndsCases at cases (by_return value) now = Unit {0}
EndsCases at cases halted now = Unit {0}

record Met (r : Outcome) (Q : Completion → Configuration → Type 0) : Type 0 where
  pub good : Good r.after
  pub ends : Q r.completion r.after

abbrev TaskOK : Task → Type 0
TaskOK (in_block at b) = SwitchesEnd b
TaskOK (in_loop l) = SwitchesEnd l.body × SwitchesEnd l.continuing

record Sound (go : Evaluation) : Type 0 where
  pub at : (task : Task) (now : Configuration) → TaskOK task → Good now → Met (go task now) (EndsTask task now)

-- the cases from one on, among all
break_among : {at other : ℕ → Place → Place} {cases some : PlainCases} → From at cases other some → (now : Configuration) → (k : ℕ) × LastIs (other k) (BreaksFrom (case_body some k)) now → (k : ℕ) × LastIs (at k) (BreaksFrom (case_body cases k)) now
break_among from_here now h = h
break_among (from_later f) now h = let x = break_among f now h in (suc x.0, x.1)

tail_among : {at other : ℕ → Place → Place} {cases some : PlainCases} → From at cases other some → (now : Configuration) → (k : ℕ) × CaseEnds some k × LastIs (other k) (LeavesFinalSwitch (case_body some k)) now → (k : ℕ) × CaseEnds cases k × LastIs (at k) (LeavesFinalSwitch (case_body cases k)) now
tail_among from_here now h = h
tail_among (from_later f) now h = let x = tail_among f now h in (suc x.0, x.1, x.2)

closed_among : {at other : ℕ → Place → Place} {cases some : PlainCases} → From at cases other some → ((k : ℕ) → CaseEnds cases k → HasNoOpenEnd (case_body cases k)) → (k : ℕ) → CaseEnds some k → HasNoOpenEnd (case_body some k)
closed_among from_here h = h
closed_among (from_later f) h = closed_among f (λ k e. h (suc k) e)

switches_among : {at other : ℕ → Place → Place} {cases some : PlainCases} → From at cases other some → ((k : ℕ) → SwitchesEnd (case_body cases k)) → (k : ℕ) → SwitchesEnd (case_body some k)
switches_among from_here h = h
switches_among (from_later f) h = switches_among f (λ k. h (suc k))

-- the completion of a part, of a switch, and with an answer
within_met : (now : Configuration) (r : Outcome) (Q : Completion → Configuration → Type 0) → ((completion : Completion) (s : Configuration) → Q completion s → Q completion (record s { live = now.live; skipped = now.skipped })) → Met r Q → Met (leave_scope now r) Q
within_met now r Q moves met = record { good = met.good; ends = moves r.completion r.after met.ends }

moves_last : {at : Place → Place} {Q : Place → Type 0} (s t : Configuration) → t.last ≡ s.last → LastIs at Q s → LastIs at Q t
moves_last s t e h = record { place = h.place; last = e ∙ h.last; is = h.is }

answered_met : (answers : List ℤ) (now : Configuration) (go : ℤ → Configuration → Outcome) (Q : Completion → Configuration → Type 0) → ((s : Configuration) → Q halted s) → Good now → ((a : ℤ) (more : List ℤ) → Met (go a (record now { answers = more })) Q) → Met (answered answers now go) Q
answered_met [] now go Q cut g met = record { good = g; ends = cut now }
answered_met (a ∷ more) now go Q cut g met = met a more

-- the statement's result from that of a nested block
part_ends : (at : Place → Place) (s : PlainStatement) (part : Part) (b : PlainBlock) (outside start : Configuration) → (HasNoOpenEnd (next s stop) → HasNoOpenEnd b) → ((p : Place) → LeavesFinalSwitch b p → LeavesFinalSwitch (next s stop) (inside part p)) → ((rest : PlainBlock) (p : Place) → BreaksFrom b p → BreaksFrom (next s rest) (inside part p))
    → (completion : Completion) (now : Configuration) → EndsBlock (λ p. at (inside part p)) b start completion now → EndsOne at s completion (record now { live = outside.live; skipped = outside.skipped })
part_ends at s part b outside start closed leaves breaks normal now e = λ c. (let l = e.1 (closed c) in record { place = inside part l.place; last = l.last; is = leaves l.place l.is })
part_ends at s part b outside start closed leaves breaks by_break now e = λ rest. record { place = inside part e.place; last = e.last; is = breaks rest e.place e.is }
part_ends at s part b outside start closed leaves breaks (by_continue left_out) now e = tt
part_ends at s part b outside start closed leaves breaks (by_return value) now e = tt
part_ends at s part b outside start closed leaves breaks halted now e = tt

case_ends : (at : ℕ → Place → Place) (value : SwitchValue) (body : PlainBlock) (rest : PlainCases) (falls : Bool) (start : Configuration) (r : Outcome) (go : Configuration → Outcome) → Met r (EndsBlock (at 0) body start)
    → ((s : Configuration) → Good s → Met (go s) (EndsCases (λ n. at (suc n)) rest)) → Met (fall falls (leave_scope start r) go) (EndsCases at (case value body falls rest))
case_ends at value body rest false start r go met more = record { good = met.good; ends = ends_so r.completion r.after met.ends }
  where
    ends_so : (completion : Completion) (now : Configuration) → EndsBlock (at 0) body start completion now → EndsCases at (case value body false rest) completion (record now { live = start.live; skipped = start.skipped })
    ends_so normal now e = λ ends closed. (let l = e.1 (closed 0 refl) in (zero, refl, record { place = l.place; last = l.last; is = l.is }))
    ends_so by_break now e = (zero, record { place = e.place; last = e.last; is = e.is })
    ends_so (by_continue left_out) now e = tt
    ends_so (by_return value) now e = tt
    ends_so halted now e = tt
case_ends at value body rest true start r go met more = ends_so r.completion r.after met.good met.ends
  where
    shift : (completion : Completion) (s : Configuration) → EndsCases (λ n. at (suc n)) rest completion s → EndsCases at (case value body true rest) completion s
    shift normal s e = λ ends closed. (let l = e ends (λ k h. closed (suc k) h) in (suc l.0, l.1, l.2))
    shift by_break s e = (suc e.0, e.1)
    shift (by_continue left_out) s e = tt
    shift (by_return value) s e = tt
    shift halted s e = tt

    ends_so : (completion : Completion) (now : Configuration) → Good now → EndsBlock (at 0) body start completion now → Met (sequence [] completion (record now { live = start.live; skipped = start.skipped }) go) (EndsCases at (case value body true rest))
    ends_so normal now g e =
        let s : Configuration = record now { live = start.live; skipped = start.skipped } in
        let m = more s g in
        record { good = m.good; ends = shift (go s).completion (go s).after m.ends }
    ends_so by_break now g e = record { good = g; ends = (zero, record { place = e.place; last = e.last; is = e.is }) }
    ends_so (by_continue left_out) now g e = record { good = g; ends = tt }
    ends_so (by_return value) now g e = record { good = g; ends = tt }
    ends_so halted now g e = record { good = g; ends = tt }

cases_met : (go : Evaluation) → Sound go → (at : ℕ → Place → Place) (cases : PlainCases) (now : Configuration) → ((k : ℕ) → SwitchesEnd (case_body cases k)) → Good now → Met (eval_cases go at cases now) (EndsCases at cases)
cases_met go sound at no_case now ok g = record { good = g; ends = λ ends closed. absurd (true≢false ends) }
cases_met go sound at (case value body falls rest) now ok g =
    case_ends at value body rest falls now _ _ (sound.at (in_block (at 0) body) now (ok 0) g) (λ s h. cases_met go sound (λ n. at (suc n)) rest s (λ k. ok (suc k)) h)

-- each function is without open ends, and its switches are valid
pub record Closed (f : PlainFunction) : Type 0 where
  pub no_open : HasNoOpenEnd f.body
  pub switches : SwitchesEnd f.body

last_some : {Q : Place → Type 0} (now : Configuration) → LastIs (λ p. p) Q now → IsSomeAnd now.last Q
last_some {Q = Q} now l = subst (λ o. IsSomeAnd o Q) (sym l.last) l.is

module _ (u : UsedOperands) (m : PlainModule) (closed : (function : ℕ) (f : PlainFunction) → slice_get m.functions function ≡ Some f → Closed f) (go : Frame → Evaluation) (sounds : (frame : Frame) → Sound (go frame)) (frame : Frame) where
  sound : Sound (go frame)
  sound = sounds frame

  called_met : (o : Option PlainFunction) → ((f : PlainFunction) → o ≡ Some f → Closed f) → (at : Place → Place) (s : PlainStatement) (arguments : List ℕ) (now : Configuration) → IsTrue (goes_on (shape_of s)) → Good now → Met (eval_call o go frame arguments now) (EndsOne at s)
  called_met None is_closed at s arguments now goes g = record { good = g; ends = tt }
  called_met (Some callee) is_closed at s arguments now goes g =
      let start : Configuration = enters frame callee arguments now in
      let good_start : Good start = all-append FallsOK now.events (passed frame.function callee arguments ∷ entered (frame.depth + 1) ∷ []) g (tt, (tt, tt)) in
      let met = (sounds (callee_frame frame callee arguments)).at (in_block (λ p. p) callee.body) start (is_closed callee refl).switches good_start in
      ends_so _ _ met.good met.ends
    where
      never : {A : Type 0} → HasNoOpenEnd (next s stop) → A
      never h = absurd (h (later here) (after_last goes))

      ends_so : (completion : Completion) (end : Configuration) → Good end → EndsBlock (λ p. p) callee.body (enters frame callee arguments now) completion end → Met (leave_call callee now completion end) (EndsOne at s)
      ends_so normal end h e = record { good = all-append FallsOK end.events (fell_off callee end.last ∷ []) h (λ has. last_some end (e.1 (is_closed callee refl).no_open), tt); ends = λ c. never c }
      ends_so by_break end h e = record { good = all-append FallsOK end.events (escaped ∷ []) h (tt, tt); ends = tt }
      ends_so (by_continue left_out) end h e = record { good = all-append FallsOK end.events (escaped ∷ []) h (tt, tt); ends = tt }
      ends_so (by_return value) end h e = record { good = all-append FallsOK end.events (returned callee value ∷ []) h (tt, tt); ends = λ c. never c }
      ends_so halted end h e = record { good = h; ends = tt }

  never_open : {A : Type 0} (s : PlainStatement) → IsTrue (goes_on (shape_of s)) → HasNoOpenEnd (next s stop) → A
  never_open s goes h = absurd (h (later here) (after_last goes))

  switch_met : (at : Place → Place) (selector : ℕ) (cases : PlainCases) (now : Configuration) (x : Cases) → IsFound (λ k p. at (inside (case_at k) p)) cases x → (r : Outcome) → Met r (EndsCases x.at x.cases) → Met (leave_switch now r) (EndsOne at (switch selector cases))
  switch_met at selector cases now x found r met = record { good = met.good; ends = ends_so r.completion r.after met.ends }
    where
      ends_so : (completion : Completion) (s : Configuration) → EndsCases x.at x.cases completion s → EndsOne at (switch selector cases) (at_switch completion) (record s { live = now.live; skipped = now.skipped })
      ends_so normal s e = λ c.
          (let l = tail_among found.from s (e found.ends (closed_among found.from (λ k tail p ended_at. c (inside (case_at k) p) (in_tail (case_at k) tail ended_at)))) in
          record { place = inside (case_at l.0) l.2.place; last = l.2.last; is = of_tail (case_at l.0) l.1 l.2.is })
      ends_so by_break s e = λ c.
          (let l = break_among found.from s e in
          record { place = inside (case_at l.0) l.1.place; last = l.1.last; is = of_last l.0 l.1.is })
      ends_so (by_continue left_out) s e = tt
      ends_so (by_return value) s e = tt
      ends_so halted s e = tt

  statement_met : (s : PlainStatement) (at : Place → Place) (rest : PlainBlock) (now : Configuration) → SwitchesEnd (next s rest) → now.last ≡ Some (at here) → Good now → Met (eval_statement m go frame at s now) (EndsOne at s)
  statement_met (emit first end) at rest now ok last g = record { good = g; ends = λ c. never_open (emit first end) refl c }
  statement_met (block b) at rest now ok last g =
      let met = sound.at (in_block (λ p. at (inside inner p)) b) now (λ p. ok (inside inner p)) g in
      record {
        good = met.good;
        ends = part_ends at (block b) inner b now now (λ c p ended_at. c (inside inner p) (in_tail inner tt ended_at)) (λ p l. of_tail inner tt l) (λ r p h. break_inside inner open_block h) _ _ met.ends;
      }
  statement_met (if_ h accept reject) at rest now ok last g = answered_met now.answers now _ (EndsOne at (if_ h accept reject)) (λ s. tt) g (λ n more. by_side (int_eq n (pos 0)) (record now { answers = more }) g)
    where
      by_side : (rejects : Bool) (s : Configuration) → Good s → Met (leave_scope now (go frame (taken_branch rejects at accept reject) s)) (EndsOne at (if_ h accept reject))
      by_side true s q =
          let met = sound.at (in_block (λ p. at (inside rejecting p)) reject) s (λ p. ok (inside rejecting p)) q in
          record {
            good = met.good;
            ends = part_ends at (if_ h accept reject) rejecting reject now s (λ c p ended_at. c (inside rejecting p) (in_tail rejecting tt ended_at)) (λ p l. of_tail rejecting tt l) (λ r p b. break_inside rejecting in_reject b) _ _ met.ends;
          }
      by_side false s q =
          let met = sound.at (in_block (λ p. at (inside accepting p)) accept) s (λ p. ok (inside accepting p)) q in
          record {
            good = met.good;
            ends = part_ends at (if_ h accept reject) accepting accept now s (λ c p ended_at. c (inside accepting p) (in_tail accepting tt ended_at)) (λ p l. of_tail accepting tt l) (λ r p b. break_inside accepting in_accept b) _ _ met.ends;
          }
  statement_met (switch selector cases) at rest now ok last g =
      let end = ok here selector cases refl in
      answered_met now.answers now _ (EndsOne at (switch selector cases)) (λ s. tt) g (λ n more.
      let s : Configuration = record now { answers = more } in
      let at_case : ℕ → Place → Place = λ k p. at (inside (case_at k) p) in
      let x = chosen n at_case cases in
      let found = chosen_found n at_case cases end.default end.ends in
      switch_met at selector cases now x found _ (cases_met (go frame) sound x.at x.cases s (switches_among found.from (λ k p. ok (inside (case_at k) p))) g))
  statement_met (loop body continuing break_if) at rest now ok last g =
      let l : Loop = record { at = at; body = body; continuing = continuing; break_if = break_if } in
      let met = sound.at (in_loop l) now (λ p. ok (inside loop_body p), λ p. ok (inside loop_continuing p)) g in
      let r = go frame (in_loop l) now in
      record { good = met.good; ends = by_ending r.completion r.after met.ends }
    where
      by_ending : (completion : Completion) (s : Configuration) → EndsLoop completion → EndsOne at (loop body continuing break_if) completion (record s { live = now.live; skipped = now.skipped })
      by_ending normal s e = λ c. never_open (loop body continuing break_if) refl c
      by_ending by_break s e = absurd e
      by_ending (by_continue left_out) s e = tt
      by_ending (by_return value) s e = tt
      by_ending halted s e = tt
  statement_met break at rest now ok last g = record { good = g; ends = λ r. record { place = here; last = last; is = break_here } }
  statement_met continue at rest now ok last g = record { good = g; ends = tt }
  statement_met (return value) at rest now ok last g = record { good = g; ends = tt }
  statement_met kill at rest now ok last g = record { good = g; ends = tt }
  statement_met (operation x) at rest now ok last g = record { good = g; ends = λ c. never_open (operation x) refl c }
  statement_met (call function arguments result) at rest now ok last g =
      called_met (slice_get m.functions function) (λ f found. closed function f found) at (call function arguments result) arguments now refl g

  -- a block with a statement that is the last, and one that isn't
  rest_ends : (s : PlainStatement) (at : Place → Place) (rest : PlainBlock) (start middle : Configuration) → EndsOne at s normal middle → (completion : Completion) (now : Configuration) → EndsBlock (λ p. at (later p)) rest (introduces u frame (introduced s) middle) completion now → EndsBlock at (next s rest) start completion now
  rest_ends s at stop start middle one normal now e = (λ h. absurd (next_stop h), λ c. moves_last middle now (e.0 refl ∙ introduces_last u frame (introduced s) middle) (one c))
    where
      next_stop : next s stop ≡ stop → ⊥
      next_stop h = cc (h)
  rest_ends s at (next t rest) start middle one normal now e =
      (λ h. absurd (next_stop h), λ c. (let l = e.1 (λ p ended_at. c (later p) (further ended_at)) in record { place = later l.place; last = l.last; is = of_rest l.is }))
    where
      next_stop : next s (next t rest) ≡ stop → ⊥
      next_stop h = cc (h)
  rest_ends s at rest start middle one by_break now e = record { place = later e.place; last = e.last; is = break_later e.is }
  rest_ends s at rest start middle one (by_continue left_out) now e = tt
  rest_ends s at rest start middle one (by_return value) now e = tt
  rest_ends s at rest start middle one halted now e = tt

  next_met : (s : PlainStatement) (at : Place → Place) (rest : PlainBlock) (start now : Configuration) → SwitchesEnd (next s rest) → Good now → let r = eval_statement m go frame at s (begins u frame (at here) s now) in Met (sequence (introduced s ++ top_level rest) r.completion r.after (λ end. go frame (in_block (λ p. at (later p)) rest) (introduces u frame (introduced s) end))) (EndsBlock at (next s rest) start)
  next_met s at rest start now ok g =
      let begun : Configuration = begins u frame (at here) s now in
      let met = statement_met s at rest begun ok refl (good_begins u frame (at here) s now g) in
      ends_so _ _ met.good met.ends
    where
      ends_so : (completion : Completion) (end : Configuration) → Good end → EndsOne at s completion end → Met (sequence (introduced s ++ top_level rest) completion end (λ e. go frame (in_block (λ p. at (later p)) rest) (introduces u frame (introduced s) e))) (EndsBlock at (next s rest) start)
      ends_so normal end h e =
          let met = sound.at (in_block (λ p. at (later p)) rest) (introduces u frame (introduced s) end) (λ p. ok (later p)) (good_introduces u frame (introduced s) end h) in
          record { good = met.good; ends = rest_ends s at rest start end e _ _ met.ends }
      ends_so by_break end h e = record { good = h; ends = e rest }
      ends_so (by_continue left_out) end h e = record { good = h; ends = tt }
      ends_so (by_return value) end h e = record { good = h; ends = tt }
      ends_so halted end h e = record { good = h; ends = tt }

  -- an iteration
  module _ (l : Loop) (start : Configuration) (ok : SwitchesEnd l.body × SwitchesEnd l.continuing) where
    abbrev Leaves : Outcome → Type 0
    Leaves r = Met r (λ completion now. EndsLoop completion)

    turns_again : (now : Configuration) → Good now → Leaves (next_turn u frame (go frame) l start now)
    turns_again now g = let met = sound.at (in_loop l) (record now { live = start.live; skipped = start.skipped }) ok g in record { good = met.good; ends = met.ends }

    condition_leaves : (o : Option ℕ) (now : Configuration) → Good now → Leaves (eval_condition u frame (go frame) l start o now)
    condition_leaves None now g = turns_again now g
    condition_leaves (Some h) now g =
        answered_met now.answers asked _ (λ completion s. EndsLoop completion) (λ s. tt) good_asked (λ n more. by_stay (int_eq n (pos 0)) (record asked { answers = more }) good_asked)
      where
        asked : Configuration
        asked = uses frame (u.at_spot (loop_condition (Some h))) now

        good_asked : Good asked
        good_asked = good_uses frame (u.at_spot (loop_condition (Some h))) now g

        by_stay : (stays : Bool) (s : Configuration) → Good s → Leaves (stay_or_leave u frame (go frame) l start stays s)
        by_stay true s q = turns_again s q
        by_stay false s q = record { good = q; ends = tt }

    continuing_leaves : (now : Configuration) → Good now → Leaves (eval_continuing u frame (go frame) l start now)
    continuing_leaves now g =
        let met = sound.at (in_block (λ p. l.at (inside loop_continuing p)) l.continuing) now ok.1 g in
        ends_so _ _ met.good
      where
        escaped_good : (end : Configuration) → Good end → Good (happen (escaped ∷ []) end)
        escaped_good end h = happen_good (escaped ∷ []) end h (tt, tt)

        ends_so : (completion : Completion) (end : Configuration) → Good end → Leaves (after_continuing u frame (go frame) l start completion end)
        ends_so normal end h = condition_leaves l.break_if end h
        ends_so by_break end h = record { good = escaped_good end h; ends = tt }
        ends_so (by_continue left_out) end h = record { good = escaped_good end h; ends = tt }
        ends_so (by_return value) end h = record { good = escaped_good end h; ends = tt }
        ends_so halted end h = record { good = h; ends = tt }

    turn_met : Good start → Leaves (eval_turn u frame (go frame) l start)
    turn_met g =
        let met = sound.at (in_block (λ p. l.at (inside loop_body p)) l.body) start ok.0 g in
        let left = ends_so _ _ met.good in
        record { good = left.good; ends = left.ends }
      where
        ends_so : (completion : Completion) (end : Configuration) → Good end → Leaves (after_body u frame (go frame) l start completion end)
        ends_so normal end h = continuing_leaves end h
        ends_so by_break end h = record { good = h; ends = tt }
        ends_so (by_continue left_out) end h = continuing_leaves (record end { skipped = end.skipped ++ left_out }) h
        ends_so (by_return value) end h = record { good = h; ends = tt }
        ends_so halted end h = record { good = h; ends = tt }

  step_met : (steps : ℕ) (now : Configuration) (then_go : Configuration → Outcome) (Q : Completion → Configuration → Type 0) → ((s : Configuration) → Q halted s) → Good now → ((k : ℕ) → Met (then_go (record now { steps = k })) Q) → Met (step steps now then_go) Q
  step_met zero now then_go Q cut g met = record { good = g; ends = cut now }
  step_met (suc k) now then_go Q cut g met = met k

  task_met : (task : Task) (now : Configuration) → TaskOK task → Good now → Met (eval_task u m go frame task now) (EndsTask task now)
  task_met (in_block at stop) now ok g = record { good = g; ends = (λ h. refl, λ c. absurd (c here empty)) }
  task_met (in_block at (next s rest)) now ok g = step_met now.steps now _ (EndsBlock at (next s rest) now) (λ s. tt) g (λ k. next_met s at rest now (record now { steps = k }) ok g)
  task_met (in_loop l) now ok g = step_met now.steps now _ (λ completion s. EndsLoop completion) (λ s. tt) g (λ k. turn_met l (record now { steps = k }) ok g)

eval_met : (u : UsedOperands) (m : PlainModule) → ((function : ℕ) (f : PlainFunction) → slice_get m.functions function ≡ Some f → Closed f) → (n : ℕ) (frame : Frame) → Sound (eval u m n frame)
eval_met u m closed zero frame = record { at = cut }
  where
    cut : (task : Task) (now : Configuration) → TaskOK task → Good now → Met (completes halted now) (EndsTask task now)
    cut (in_block at b) now ok g = record { good = g; ends = tt }
    cut (in_loop l) now ok g = record { good = g; ends = tt }
eval_met u m closed (suc n) frame = record { at = task_met u m closed (eval u m n) (eval_met u m closed n) frame }

pub falls_by_breaks : (u : UsedOperands) (m : PlainModule) → ((function : ℕ) (f : PlainFunction) → slice_get m.functions function ≡ Some f → Closed f) → (f : PlainFunction) → Closed f → (answers : List ℤ) (n : ℕ) → AllByRecursion FallsOK (trace_of u m f answers n)
falls_by_breaks u m closed f own answers n =
    let met = (eval_met u m closed (suc n) (entry_frame f)).at (in_block (λ p. p) f.body) (initial answers n) own.switches (tt, tt) in
    ends_so _ _ met.good met.ends
  where
    ends_so : (completion : Completion) (end : Configuration) → Good end → EndsBlock (λ p. p) f.body (initial answers n) completion end → AllByRecursion FallsOK (finish f completion end)
    ends_so normal end h e = all-append FallsOK end.events (fell_off f end.last ∷ []) h (λ has. last_some end (e.1 own.no_open), tt)
    ends_so by_break end h e = all-append FallsOK end.events (escaped ∷ []) h (tt, tt)
    ends_so (by_continue left_out) end h e = all-append FallsOK end.events (escaped ∷ []) h (tt, tt)
    ends_so (by_return value) end h e = all-append FallsOK end.events (returned f value ∷ []) h (tt, tt)
    ends_so halted end h e = h
