-- The bound on nesting never ends a run: any bound above the number of steps is enough.
use Rattle.std.proofs.Common.{◌≡◌, ℕ, zero, suc, ℤ, pos, ◌<◌, ◌≤◌, Bool, true, false, List, [], ◌∷◌, ◌++◌, Option, Some, None, slice_get, refl, sym, ap, subst, ◌∙◌, arith, le_refl}
use Rattle.std.specs.Ordering.{int_eq}
use Rattle.ir_blocks.specs.judged.Places.{Place, here, later, inside, loop_condition}
use Rattle.ir_blocks.specs.judged.Plain.{PlainStatement, emit, block, if_, switch, loop, break, continue, return, kill, operation, call, stop, next, PlainCases, no_case, case}
use Rattle.ir_blocks.specs.judged.Shapes.{inner, case_at, loop_body, loop_continuing}
use Rattle.ir_items.specs.judged.Plain.{PlainFunction, PlainModule}
use Rattle.spec_statements.specs.judged.Tables.{introduced}
use Rattle.spec_statements.specs.judged.Visible.{top_level}
use Rattle.spec_runs.specs.judged.Laws.{NestingCutsNoRun}
use Rattle.spec_runs.specs.judged.Machine.{Frame, Configuration, Completion, normal, by_break, by_continue, by_return, halted, Outcome, step, answered, uses, begins, introduces_one, introduces, leave_scope, sequence, Loop, Task, in_block, in_loop, Evaluation, taken_branch, chosen, fall, eval_cases, leave_switch, next_turn, stay_or_leave, eval_condition, after_continuing, eval_continuing, after_body, eval_turn, callee_frame, enters, leave_call, eval_call, eval_statement, eval_task, eval}
use Rattle.spec_runs.specs.judged.Scoping.{UsedOperands}

-- no task adds steps
record Falls (go : Frame → Evaluation) : Type 0 where
  pub at : (frame : Frame) (task : Task) (now : Configuration) → (go frame task now).after.steps ≤ now.steps

-- the two agree if fewer than k steps are left
record Same (k : ℕ) (go other : Frame → Evaluation) : Type 0 where
  pub at : (frame : Frame) (task : Task) (now : Configuration) → now.steps < k → go frame task now ≡ other frame task now

-- what remains after an outcome
abbrev Leaves : ℕ → Outcome → Type 0
Leaves n r = r.after.steps ≤ n

sequence_falls : (n : ℕ) (coming : List ℕ) (completion : Completion) (now : Configuration) (f : Configuration → Outcome) → now.steps ≤ n → ((s : Configuration) → s.steps ≤ n → Leaves n (f s)) → Leaves n (sequence coming completion now f)
sequence_falls n coming normal now f le g = g now le
sequence_falls n coming by_break now f le g = le
sequence_falls n coming (by_continue left_out) now f le g = le
sequence_falls n coming (by_return value) now f le g = le
sequence_falls n coming halted now f le g = le

sequence_same : (k : ℕ) (coming : List ℕ) (completion : Completion) (now : Configuration) (f g : Configuration → Outcome) → now.steps < k → ((s : Configuration) → s.steps < k → f s ≡ g s) → sequence coming completion now f ≡ sequence coming completion now g
sequence_same k coming normal now f g lt e = e now lt
sequence_same k coming by_break now f g lt e = refl
sequence_same k coming (by_continue left_out) now f g lt e = refl
sequence_same k coming (by_return value) now f g lt e = refl
sequence_same k coming halted now f g lt e = refl

answered_falls : (n : ℕ) (answers : List ℤ) (now : Configuration) (f : ℤ → Configuration → Outcome) → now.steps ≤ n → ((a : ℤ) (s : Configuration) → s.steps ≤ n → Leaves n (f a s)) → Leaves n (answered answers now f)
answered_falls n [] now f le g = le
answered_falls n (a ∷ more) now f le g = g a (record now { answers = more }) le

answered_same : (k : ℕ) (answers : List ℤ) (now : Configuration) (f g : ℤ → Configuration → Outcome) → now.steps < k → ((a : ℤ) (s : Configuration) → s.steps < k → f a s ≡ g a s) → answered answers now f ≡ answered answers now g
answered_same k [] now f g lt e = refl
answered_same k (a ∷ more) now f g lt e = e a (record now { answers = more }) lt

call_falls : (n : ℕ) (callee : PlainFunction) (completion : Completion) (now end : Configuration) → end.steps ≤ n → Leaves n (leave_call callee now completion end)
call_falls n callee normal now end le = le
call_falls n callee by_break now end le = le
call_falls n callee (by_continue left_out) now end le = le
call_falls n callee (by_return value) now end le = le
call_falls n callee halted now end le = le

-- introductions take no step
introduces_steps : (u : UsedOperands) (frame : Frame) (es : List ℕ) (now : Configuration) → (introduces u frame es now).steps ≡ now.steps
introduces_steps u frame [] now = refl
introduces_steps u frame (e ∷ es) now = introduces_steps u frame es (introduces_one u frame e now)

step_falls : (n steps : ℕ) (now : Configuration) (f : Configuration → Outcome) → now.steps ≤ n → steps ≤ n → ((s : Configuration) → s.steps ≤ n → Leaves n (f s)) → Leaves n (step steps now f)
step_falls n zero now f le at g = le
step_falls n (suc k) now f le at g = g (record now { steps = k }) (omega arith)

step_same : (k steps : ℕ) (now : Configuration) (f g : Configuration → Outcome) → steps ≤ k → ((s : Configuration) → s.steps < k → f s ≡ g s) → step steps now f ≡ step steps now g
step_same k zero now f g le e = refl
step_same k (suc j) now f g le e = e (record now { steps = j }) (omega arith)

module _ (m : PlainModule) (go : Frame → Evaluation) (falls : Falls go) where
  go_falls : (n : ℕ) (frame : Frame) (task : Task) (now : Configuration) → now.steps ≤ n → Leaves n (go frame task now)
  go_falls n frame task now le = let f = falls.at frame task now in omega arith

  fall_falls : (n : ℕ) (b : Bool) (r : Outcome) (f : Configuration → Outcome) → Leaves n r → ((s : Configuration) → s.steps ≤ n → Leaves n (f s)) → Leaves n (fall b r f)
  fall_falls n false r f le g = le
  fall_falls n true r f le g = sequence_falls n [] r.completion r.after f le g

  cases_fall : (n : ℕ) (frame : Frame) (at : ℕ → Place → Place) (cases : PlainCases) (now : Configuration) → now.steps ≤ n → Leaves n (eval_cases (go frame) at cases now)
  cases_fall n frame at no_case now le = le
  cases_fall n frame at (case value body falls_on rest) now le =
      fall_falls n falls_on (leave_scope now (go frame (in_block (at 0) body) now)) (λ s. eval_cases (go frame) (λ k. at (suc k)) rest s) (go_falls n frame (in_block (at 0) body) now le) (λ s b. cases_fall n frame (λ k. at (suc k)) rest s b)

  called_falls : (n : ℕ) (o : Option PlainFunction) (frame : Frame) (arguments : List ℕ) (now : Configuration) → now.steps ≤ n → Leaves n (eval_call o go frame arguments now)
  called_falls n None frame arguments now le = le
  called_falls n (Some callee) frame arguments now le =
      let r = go (callee_frame frame callee arguments) (in_block (λ p. p) callee.body) (enters frame callee arguments now) in
      call_falls n callee r.completion now r.after (go_falls n (callee_frame frame callee arguments) (in_block (λ p. p) callee.body) (enters frame callee arguments now) le)

  statement_falls : (n : ℕ) (frame : Frame) (at : Place → Place) (s : PlainStatement) (now : Configuration) → now.steps ≤ n → Leaves n (eval_statement m go frame at s now)
  statement_falls n frame at (emit first end) now le = le
  statement_falls n frame at (block b) now le = go_falls n frame (in_block (λ p. at (inside inner p)) b) now le
  statement_falls n frame at (if_ h accept reject) now le = answered_falls n now.answers now _ le (λ a s b. go_falls n frame (taken_branch (int_eq a (pos 0)) at accept reject) s b)
  statement_falls n frame at (switch selector cases) now le =
      answered_falls n now.answers now _ le (λ a s b. let c = chosen a (λ k p. at (inside (case_at k) p)) cases in cases_fall n frame c.at c.cases s b)
  statement_falls n frame at (loop body continuing break_if) now le = go_falls n frame (in_loop (record { at = at; body = body; continuing = continuing; break_if = break_if })) now le
  statement_falls n frame at break now le = le
  statement_falls n frame at continue now le = le
  statement_falls n frame at (return value) now le = le
  statement_falls n frame at kill now le = le
  statement_falls n frame at (operation x) now le = le
  statement_falls n frame at (call function arguments result) now le = called_falls n (slice_get m.functions function) frame arguments now le

  module _ (n : ℕ) (u : UsedOperands) (frame : Frame) (l : Loop) (start : Configuration) where
    turns_fall : (now : Configuration) → now.steps ≤ n → Leaves n (next_turn u frame (go frame) l start now)
    turns_fall now le = go_falls n frame (in_loop l) (record now { live = start.live; skipped = start.skipped }) le

    stay_falls : (stays : Bool) (now : Configuration) → now.steps ≤ n → Leaves n (stay_or_leave u frame (go frame) l start stays now)
    stay_falls true now le = turns_fall now le
    stay_falls false now le = le

    condition_falls : (o : Option ℕ) (now : Configuration) → now.steps ≤ n → Leaves n (eval_condition u frame (go frame) l start o now)
    condition_falls None now le = turns_fall now le
    condition_falls (Some h) now le = answered_falls n now.answers (uses frame (u.at_spot (loop_condition (Some h))) now) _ le (λ a s b. stay_falls (int_eq a (pos 0)) s b)

    continuing_falls : (now : Configuration) → now.steps ≤ n → Leaves n (eval_continuing u frame (go frame) l start now)
    continuing_falls now le =
        let t : Task = in_block (λ p. l.at (inside loop_continuing p)) l.continuing in
        let r = go frame t now in
        by_completion r.completion r.after (go_falls n frame t now le)
      where
        by_completion : (completion : Completion) (s : Configuration) → s.steps ≤ n → Leaves n (after_continuing u frame (go frame) l start completion s)
        by_completion normal s b = condition_falls l.break_if s b
        by_completion by_break s b = b
        by_completion (by_continue left_out) s b = b
        by_completion (by_return value) s b = b
        by_completion halted s b = b

    turn_falls : start.steps ≤ n → Leaves n (eval_turn u frame (go frame) l start)
    turn_falls le =
        let t : Task = in_block (λ p. l.at (inside loop_body p)) l.body in
        let r = go frame t start in
        by_completion r.completion r.after (go_falls n frame t start le)
      where
        by_completion : (completion : Completion) (s : Configuration) → s.steps ≤ n → Leaves n (after_body u frame (go frame) l start completion s)
        by_completion normal s b = continuing_falls s b
        by_completion by_break s b = b
        by_completion (by_continue left_out) s b = continuing_falls (record s { skipped = s.skipped ++ left_out }) b
        by_completion (by_return value) s b = b
        by_completion halted s b = b

  task_falls : (u : UsedOperands) (frame : Frame) (task : Task) (now : Configuration) → (eval_task u m go frame task now).after.steps ≤ now.steps
  task_falls u frame (in_block at stop) now = le_refl now.steps
  task_falls u frame (in_block at (next s rest)) now =
      step_falls now.steps now.steps now _ (le_refl now.steps) (le_refl now.steps) (λ begun b.
      let started = begins u frame (at here) s begun in
      let r = eval_statement m go frame at s started in
      sequence_falls now.steps (introduced s ++ top_level rest) r.completion r.after _ (statement_falls now.steps frame at s started b)
      (λ e c. go_falls now.steps frame (in_block (λ p. at (later p)) rest) (introduces u frame (introduced s) e) (subst (λ n. n ≤ now.steps) (sym (introduces_steps u frame (introduced s) e)) c)))
  task_falls u frame (in_loop l) now = step_falls now.steps now.steps now _ (le_refl now.steps) (le_refl now.steps) (λ begun b. turn_falls now.steps u frame l begun b)

eval_falls : (u : UsedOperands) (m : PlainModule) (n : ℕ) → Falls (eval u m n)
eval_falls u m zero = record { at = λ frame task now. le_refl now.steps }
eval_falls u m (suc n) = record { at = task_falls m (eval u m n) (eval_falls u m n) u }

module _ (m : PlainModule) (go other : Frame → Evaluation) (k : ℕ) (falls : Falls go) (same : Same k go other) where
  stays : (frame : Frame) (task : Task) (now : Configuration) → now.steps < k → (go frame task now).after.steps < k
  stays frame task now lt = let f = falls.at frame task now in omega arith

  fall_same : (b : Bool) (r p : Outcome) (f g : Configuration → Outcome) → r ≡ p → r.after.steps < k → ((s : Configuration) → s.steps < k → f s ≡ g s) → fall b r f ≡ fall b p g
  fall_same false r p f g e lt h = e
  fall_same true r p f g e lt h = sequence_same k [] r.completion r.after f g lt h ∙ ap (λ (x : Outcome). sequence [] x.completion x.after g) e

  cases_same : (frame : Frame) (at : ℕ → Place → Place) (cases : PlainCases) (now : Configuration) → now.steps < k → eval_cases (go frame) at cases now ≡ eval_cases (other frame) at cases now
  cases_same frame at no_case now lt = refl
  cases_same frame at (case value body falls_on rest) now lt =
      let t = in_block (at 0) body in
      fall_same falls_on (leave_scope now (go frame t now)) (leave_scope now (other frame t now)) (λ s. eval_cases (go frame) (λ n. at (suc n)) rest s) (λ s. eval_cases (other frame) (λ n. at (suc n)) rest s)
      (ap (leave_scope now) (same.at frame t now lt)) (stays frame t now lt) (λ s l. cases_same frame (λ n. at (suc n)) rest s l)

  called_same : (o : Option PlainFunction) (frame : Frame) (arguments : List ℕ) (now : Configuration) → now.steps < k → eval_call o go frame arguments now ≡ eval_call o other frame arguments now
  called_same None frame arguments now lt = refl
  called_same (Some callee) frame arguments now lt =
      ap (λ (x : Outcome). leave_call callee now x.completion x.after) (same.at (callee_frame frame callee arguments) (in_block (λ p. p) callee.body) (enters frame callee arguments now) lt)

  statement_same : (frame : Frame) (at : Place → Place) (s : PlainStatement) (now : Configuration) → now.steps < k → eval_statement m go frame at s now ≡ eval_statement m other frame at s now
  statement_same frame at (emit first end) now lt = refl
  statement_same frame at (block b) now lt = ap (leave_scope now) (same.at frame (in_block (λ p. at (inside inner p)) b) now lt)
  statement_same frame at (if_ h accept reject) now lt = answered_same k now.answers now _ _ lt (λ a s l. ap (leave_scope now) (same.at frame (taken_branch (int_eq a (pos 0)) at accept reject) s l))
  statement_same frame at (switch selector cases) now lt =
      answered_same k now.answers now _ _ lt (λ a s l. let c = chosen a (λ n p. at (inside (case_at n) p)) cases in ap (leave_switch now) (cases_same frame c.at c.cases s l))
  statement_same frame at (loop body continuing break_if) now lt = ap (leave_scope now) (same.at frame (in_loop (record { at = at; body = body; continuing = continuing; break_if = break_if })) now lt)
  statement_same frame at break now lt = refl
  statement_same frame at continue now lt = refl
  statement_same frame at (return value) now lt = refl
  statement_same frame at kill now lt = refl
  statement_same frame at (operation x) now lt = refl
  statement_same frame at (call function arguments result) now lt = called_same (slice_get m.functions function) frame arguments now lt

  module _ (u : UsedOperands) (frame : Frame) (l : Loop) (start : Configuration) where
    turns_same : (now : Configuration) → now.steps < k → next_turn u frame (go frame) l start now ≡ next_turn u frame (other frame) l start now
    turns_same now lt = same.at frame (in_loop l) (record now { live = start.live; skipped = start.skipped }) lt

    stay_same : (stay : Bool) (now : Configuration) → now.steps < k → stay_or_leave u frame (go frame) l start stay now ≡ stay_or_leave u frame (other frame) l start stay now
    stay_same true now lt = turns_same now lt
    stay_same false now lt = refl

    condition_same : (o : Option ℕ) (now : Configuration) → now.steps < k → eval_condition u frame (go frame) l start o now ≡ eval_condition u frame (other frame) l start o now
    condition_same None now lt = turns_same now lt
    condition_same (Some h) now lt = answered_same k now.answers (uses frame (u.at_spot (loop_condition (Some h))) now) _ _ lt (λ a s b. stay_same (int_eq a (pos 0)) s b)

    continuing_same : (now : Configuration) → now.steps < k → eval_continuing u frame (go frame) l start now ≡ eval_continuing u frame (other frame) l start now
    continuing_same now lt =
        let t : Task = in_block (λ p. l.at (inside loop_continuing p)) l.continuing in
        let r = go frame t now in
        by_completion r.completion r.after (stays frame t now lt) ∙ ap (λ (x : Outcome). after_continuing u frame (other frame) l start x.completion x.after) (same.at frame t now lt)
      where
        by_completion : (completion : Completion) (s : Configuration) → s.steps < k → after_continuing u frame (go frame) l start completion s ≡ after_continuing u frame (other frame) l start completion s
        by_completion normal s b = condition_same l.break_if s b
        by_completion by_break s b = refl
        by_completion (by_continue left_out) s b = refl
        by_completion (by_return value) s b = refl
        by_completion halted s b = refl

    turn_same : start.steps < k → eval_turn u frame (go frame) l start ≡ eval_turn u frame (other frame) l start
    turn_same lt =
        let t : Task = in_block (λ p. l.at (inside loop_body p)) l.body in
        let r = go frame t start in
        ap (leave_scope start) (by_completion r.completion r.after (stays frame t start lt) ∙ ap (λ (x : Outcome). after_body u frame (other frame) l start x.completion x.after) (same.at frame t start lt))
      where
        by_completion : (completion : Completion) (s : Configuration) → s.steps < k → after_body u frame (go frame) l start completion s ≡ after_body u frame (other frame) l start completion s
        by_completion normal s b = continuing_same s b
        by_completion by_break s b = refl
        by_completion (by_continue left_out) s b = continuing_same (record s { skipped = s.skipped ++ left_out }) b
        by_completion (by_return value) s b = refl
        by_completion halted s b = refl

  task_same : (u : UsedOperands) (frame : Frame) (task : Task) (now : Configuration) → now.steps ≤ k → eval_task u m go frame task now ≡ eval_task u m other frame task now
  task_same u frame (in_block at stop) now le = refl
  task_same u frame (in_block at (next s rest)) now le =
      step_same k now.steps now _ _ le (λ begun lt.
      let coming = introduced s ++ top_level rest in
      let started = begins u frame (at here) s begun in
      let r = eval_statement m go frame at s started in
      let small : r.after.steps < k = (let b = statement_falls m go falls begun.steps frame at s started (le_refl begun.steps) in omega arith) in
      sequence_same k coming r.completion r.after _ _ small
      (λ e b. same.at frame (in_block (λ p. at (later p)) rest) (introduces u frame (introduced s) e) (subst (λ n. n < k) (sym (introduces_steps u frame (introduced s) e)) b))
      ∙ ap (λ (x : Outcome). sequence coming x.completion x.after (λ e. other frame (in_block (λ p. at (later p)) rest) (introduces u frame (introduced s) e))) (statement_same frame at s started lt))
  task_same u frame (in_loop l) now le = step_same k now.steps now _ _ le (λ begun lt. turn_same u frame l begun lt)

-- any two bounds above the number of steps give the same run
pub nesting_cuts_no_run : NestingCutsNoRun
nesting_cuts_no_run u m zero n frame task now lt mt = absurd (omega arith)
nesting_cuts_no_run u m (suc j) zero frame task now lt mt = absurd (omega arith)
nesting_cuts_no_run u m (suc j) (suc n) frame task now lt mt =
    task_same m (eval u m j) (eval u m n) now.steps (eval_falls u m j) record { at = λ f t s l. nesting_cuts_no_run u m j n f t s (omega arith) (omega arith) } u frame task now (le_refl now.steps)
