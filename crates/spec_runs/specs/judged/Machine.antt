-- Runs of an entry point of a module, for every list of oracle answers and every number of steps.
use Rattle.std.specs.Prelude.{ℕ, zero, suc, ◌+◌, ℤ, pos, Bool, true, false, List, [], ◌∷◌, ◌++◌, map, Option, Some, None, slice_get, unwrap_or}
use Rattle.std.specs.List.{flat_map}
use Rattle.std.specs.Ordering.{int_eq}
use Rattle.spec_expressions.specs.declared.sampling.GlobalOrArgument.{GlobalOrArgument}
use Rattle.spec_expressions.specs.declared.sampling.GlobalOrArgument.TheVariants.{Global, Argument}
use Rattle.ir_kinds.specs.declared.values.SwitchValue.{SwitchValue}
use Rattle.ir_kinds.specs.declared.values.SwitchValue.TheVariants.{I32, U32, Default}
use Rattle.ir_types.specs.judged.ExpressionPlain.{PlainExpression, plain}
use Rattle.ir_types.specs.declared.expressions.Expression.TheVariants.{GlobalVariable, ImageSample}
use Rattle.ir_blocks.specs.judged.Plain.{PlainStatement, emit, block, if_, switch, loop, break, continue, return, kill, operation, call, PlainBlock, stop, next, PlainCases, no_case, case}
use Rattle.ir_blocks.specs.judged.Shapes.{inner, accepting, rejecting, case_at, loop_body, loop_continuing}
use Rattle.ir_blocks.specs.judged.Places.{Place, here, later, inside, statement, loop_condition}
use Rattle.ir_items.specs.judged.Plain.{PlainFunction, PlainEntry, PlainModule}
use Rattle.spec_expressions.specs.judged.CallChains.{global_or_argument}
use Rattle.spec_expressions.specs.judged.StatementNames.{statement_operands}
use Rattle.spec_statements.specs.judged.Tables.{introduced}
use Rattle.spec_statements.specs.judged.Visible.{top_level}
use Rattle.spec_runs.specs.judged.Events.{Event, entered, executed, introduced_expression, named, sampled, used, passed, returned, fell_off, escaped}
use Rattle.spec_runs.specs.judged.Reached.{reached_from}
use Rattle.spec_runs.specs.judged.Scoping.{UsedOperands}

-- ---- frames and configurations

-- The frame of a call in progress: its depth, its function, and the global variables that its arguments denote,
-- if they denote any.
pub record Frame : Type 0 where
  pub depth : ℕ
  pub function : PlainFunction
  pub arguments : List (Option ℕ)

pub record Configuration : Type 0 where
  -- the expressions live in the current frame, those skipped there, and the place of its last executed statement
  pub live : List ℕ
  pub skipped : List ℕ
  pub last : Option Place
  -- the remaining answers, the remaining steps, and the events so far
  pub answers : List ℤ
  pub steps : ℕ
  pub events : List Event

-- How a part of a run completes. A continue has the expressions that the skipped statements of the part would have introduced.
pub data Completion : Type 0 where
  normal : Completion
  by_break : Completion
  by_continue : (left_out : List ℕ) → Completion
  by_return : (value : Option ℕ) → Completion
  -- the run is over: out of steps or answers, killed, or escaped
  halted : Completion

pub record Outcome : Type 0 where
  pub completion : Completion
  pub after : Configuration

abbrev pub completes : Completion → Configuration → Outcome
completes completion now = record { completion = completion; after = now }

abbrev pub happen : List Event → Configuration → Configuration
happen events now = record now { events = now.events ++ events }

-- ends the run with an escape
abbrev pub escapes : Configuration → Outcome
escapes now = completes halted (happen (escaped ∷ []) now)

-- ---- steps and answers

-- takes one of the remaining steps, which are the first argument
abbrev pub step : ℕ → Configuration → (Configuration → Outcome) → Outcome
step zero now go = completes halted now
step (suc k) now go = go (record now { steps = k })

-- takes one of the remaining answers, which are the first argument
abbrev pub answered : List ℤ → Configuration → (ℤ → Configuration → Outcome) → Outcome
answered [] now go = completes halted now
answered (a ∷ more) now go = go a (record now { answers = more })

-- ---- global variables

-- the global variable that an image or sampler denotes, given those of the frame's arguments; none if there is no such argument
abbrev pub global_meant : List (Option ℕ) → Option GlobalOrArgument → Option ℕ
global_meant arguments (Some (Global g)) = Some g
global_meant arguments (Some (Argument n)) = unwrap_or (slice_get arguments n) None
global_meant arguments None = None

-- the global variable that an expression denotes in a frame
abbrev pub global_denoted : Frame → ℕ → Option ℕ
global_denoted frame e = global_meant frame.arguments (global_or_argument frame.function.expressions e)

abbrev pub pair_of : Option ℕ → Option ℕ → List Event
pair_of (Some image) (Some sampler) = sampled image sampler ∷ []
pair_of (Some image) None = []
pair_of None sampler = []

-- a global variable expression refers to it, and a sample samples the pair that its image and its sampler denote
abbrev pub mentioned_at : Frame → Option PlainExpression → List Event
mentioned_at frame (Some (plain (GlobalVariable g))) = named g ∷ []
mentioned_at frame (Some (plain (ImageSample image sampler gathers coordinate array_index offset level depth_ref clamp_to_edge))) = pair_of (global_denoted frame image) (global_denoted frame sampler)
mentioned_at frame _ = []

-- the events of these expressions, and of their operands at any depth
abbrev pub mentions : Frame → List ℕ → List Event
mentions frame expressions = flat_map (λ e. mentioned_at frame (slice_get frame.function.expressions e)) (flat_map (reached_from frame.function) expressions)

-- ---- uses and introductions of statements

abbrev pub uses : Frame → List ℕ → Configuration → Configuration
uses frame operands now = happen (map (used frame.function now.live now.skipped) operands) now

abbrev pub introduced_operands : UsedOperands → Option PlainExpression → List ℕ
introduced_operands u (Some expression) = u.at_introduction expression
introduced_operands u None = []

-- a statement begins: it is executed, and its operands' global variables are referred to, and its operands used
abbrev pub begins : UsedOperands → Frame → Place → PlainStatement → Configuration → Configuration
begins u frame p s now =
    uses frame (u.at_spot (statement s)) (happen (executed frame.function p ∷ mentions frame (statement_operands s)) (record now { last = Some p }))

-- an expression is introduced: it and its operands refer to global variables, its operands are used, and it is live from then on
abbrev pub introduces_one : UsedOperands → Frame → ℕ → Configuration → Configuration
introduces_one u frame e now = let begun = happen (introduced_expression frame.function e ∷ mentions frame (e ∷ [])) now in
    record (uses frame (introduced_operands u (slice_get frame.function.expressions e)) begun) { live = now.live ++ (e ∷ []) }

-- these expressions are introduced, one after another
abbrev pub introduces : UsedOperands → Frame → List ℕ → Configuration → Configuration
introduces u frame [] now = now
introduces u frame (e ∷ es) now = introduces u frame es (introduces_one u frame e now)

-- ---- parts and completions

-- expressions that became live or skipped in a part are dropped at its end
abbrev pub leave_scope : Configuration → Outcome → Outcome
leave_scope start r = completes r.completion (record r.after { live = start.live; skipped = start.skipped })

-- continues after a normal completion; what a continue skips then includes what the remaining statements would introduce
abbrev pub sequence : (coming : List ℕ) → Completion → Configuration → (Configuration → Outcome) → Outcome
sequence coming normal now go = go now
sequence coming by_break now go = completes by_break now
sequence coming (by_continue left_out) now go = completes (by_continue coming) now
sequence coming (by_return value) now go = completes (by_return value) now
sequence coming halted now go = completes halted now

-- ---- tasks

-- a loop; `at` maps its places into the function's body, with the loop as the first statement of a block
pub record Loop : Type 0 where
  pub at : Place → Place
  pub body : PlainBlock
  pub continuing : PlainBlock
  pub break_if : Option ℕ

-- A task, a block or the iterations of a loop; `at` maps the block's places into the function's body.
pub data Task : Type 0 where
  in_block : (at : Place → Place) → PlainBlock → Task
  in_loop : Loop → Task

abbrev pub Evaluation : Type 0
Evaluation = Task → Configuration → Outcome

-- ---- if and switch

-- the branch that a conditional takes
abbrev pub taken_branch : (rejects : Bool) → (Place → Place) → (accept reject : PlainBlock) → Task
taken_branch true at accept reject = in_block (λ p. at (inside rejecting p)) reject
taken_branch false at accept reject = in_block (λ p. at (inside accepting p)) accept

abbrev pub is_value : SwitchValue → ℤ → Bool
is_value (I32 z) a = int_eq z a
is_value (U32 n) a = int_eq (pos n) a
is_value Default a = false

abbrev pub is_default : SwitchValue → Bool
is_default Default = true
is_default (I32 z) = false
is_default (U32 n) = false

-- The remaining cases of a switch; `at` maps the places of the first, the second and so on.
pub record Cases : Type 0 where
  pub at : ℕ → Place → Place
  pub cases : PlainCases

abbrev pub either_cases : (first : Bool) → Cases → Cases → Cases
either_cases true one other = one
either_cases false one other = other

-- from the first case on that passes, and none if none does
abbrev pub from_first : (passes : SwitchValue → Bool) → (ℕ → Place → Place) → PlainCases → Cases
from_first passes at no_case = record { at = at; cases = no_case }
from_first passes at (case value body falls rest) = either_cases (passes value) (record { at = at; cases = case value body falls rest }) (from_first passes (λ n. at (suc n)) rest)

-- the first ones, if there is a case among them
abbrev pub unless_none : PlainCases → Cases → Cases → Cases
unless_none no_case one other = other
unless_none (case value body falls rest) one other = one

-- from the first case on whose value is the answer, otherwise from the default on
abbrev pub chosen : (answer : ℤ) → (ℕ → Place → Place) → PlainCases → Cases
chosen a at cases = let one = from_first (λ v. is_value v a) at cases in unless_none one.cases one (from_first is_default at cases)

-- continues with the next case after a fall through
abbrev pub fall : (falls : Bool) → Outcome → (Configuration → Outcome) → Outcome
fall false r go = r
fall true r go = sequence [] r.completion r.after go

abbrev pub eval_cases : Evaluation → (ℕ → Place → Place) → PlainCases → Configuration → Outcome
eval_cases go at no_case now = completes normal now
eval_cases go at (case value body falls rest) now = fall falls (leave_scope now (go (in_block (at 0) body) now)) (λ s. eval_cases go (λ n. at (suc n)) rest s)

-- a `Break` completes a switch normally
abbrev pub at_switch : Completion → Completion
at_switch by_break = normal
at_switch normal = normal
at_switch (by_continue left_out) = by_continue left_out
at_switch (by_return value) = by_return value
at_switch halted = halted

abbrev pub leave_switch : Configuration → Outcome → Outcome
leave_switch start r = leave_scope start (completes (at_switch r.completion) r.after)

-- ---- loops

-- an iteration of the loop, from this configuration
module _ (u : UsedOperands) (frame : Frame) (go : Evaluation) (l : Loop) (start : Configuration) where
  -- expressions live before this iteration are live before the next
  abbrev pub next_turn : Configuration → Outcome
  next_turn now = go (in_loop l) (record now { live = start.live; skipped = start.skipped })

  -- a nonzero answer leaves the loop
  abbrev pub stay_or_leave : (stays : Bool) → Configuration → Outcome
  stay_or_leave true now = next_turn now
  stay_or_leave false now = completes normal now

  abbrev pub eval_condition : Option ℕ → Configuration → Outcome
  eval_condition None now = next_turn now
  eval_condition (Some h) now = answered now.answers (uses frame (u.at_spot (loop_condition (Some h))) now) (λ a s. stay_or_leave (int_eq a (pos 0)) s)

  -- no completion may leave a continuing block
  abbrev pub after_continuing : Completion → Configuration → Outcome
  after_continuing normal now = eval_condition l.break_if now
  after_continuing by_break now = escapes now
  after_continuing (by_continue left_out) now = escapes now
  after_continuing (by_return value) now = escapes now
  after_continuing halted now = completes halted now

  abbrev pub eval_continuing : Configuration → Outcome
  eval_continuing now = let r = go (in_block (λ p. l.at (inside loop_continuing p)) l.continuing) now in after_continuing r.completion r.after

  -- after a continue, the expressions whose introduction it skipped in the body are skipped
  abbrev pub after_body : Completion → Configuration → Outcome
  after_body normal now = eval_continuing now
  after_body (by_continue left_out) now = eval_continuing (record now { skipped = now.skipped ++ left_out })
  after_body by_break now = completes normal now
  after_body (by_return value) now = completes (by_return value) now
  after_body halted now = completes halted now

  abbrev pub eval_turn : Outcome
  eval_turn = let r = go (in_block (λ p. l.at (inside loop_body p)) l.body) start in leave_scope start (after_body r.completion r.after)

-- ---- calls

-- the callee's frame, one level deeper
abbrev pub callee_frame : Frame → PlainFunction → List ℕ → Frame
callee_frame frame callee arguments = record { depth = frame.depth + 1; function = callee; arguments = map (global_denoted frame) arguments }

-- no expression is live there yet
abbrev pub enters : Frame → PlainFunction → List ℕ → Configuration → Configuration
enters frame callee arguments now = happen (passed frame.function callee arguments ∷ entered (frame.depth + 1) ∷ []) (record now { live = []; skipped = []; last = None })

-- restores the caller's frame, as it was at the call
abbrev pub restore_caller : Configuration → Configuration → Configuration
restore_caller at_call now = record now { live = at_call.live; skipped = at_call.skipped; last = at_call.last }

-- the callee's body has completed in this way; a break or a continue may not leave it
abbrev pub leave_call : PlainFunction → (at_call : Configuration) → Completion → Configuration → Outcome
leave_call callee at_call normal now = completes normal (restore_caller at_call (happen (fell_off callee now.last ∷ []) now))
leave_call callee at_call (by_return value) now = completes normal (restore_caller at_call (happen (returned callee value ∷ []) now))
leave_call callee at_call by_break now = escapes now
leave_call callee at_call (by_continue left_out) now = escapes now
leave_call callee at_call halted now = completes halted now

abbrev pub eval_call : Option PlainFunction → (Frame → Evaluation) → Frame → List ℕ → Configuration → Outcome
eval_call None go frame arguments now = completes halted now
eval_call (Some callee) go frame arguments now =
    let r = go (callee_frame frame callee arguments) (in_block (λ p. p) callee.body) (enters frame callee arguments now) in
    leave_call callee now r.completion r.after

-- ---- the machine

-- the effect of a statement after it begins, and before its expressions are introduced
abbrev pub eval_statement : PlainModule → (Frame → Evaluation) → Frame → (Place → Place) → PlainStatement → Configuration → Outcome
eval_statement m go frame at (emit first end) now = completes normal now
eval_statement m go frame at (block b) now = leave_scope now (go frame (in_block (λ p. at (inside inner p)) b) now)
eval_statement m go frame at (if_ condition accept reject) now = answered now.answers now (λ a s. leave_scope now (go frame (taken_branch (int_eq a (pos 0)) at accept reject) s))
eval_statement m go frame at (switch selector cases) now =
    answered now.answers now (λ a s. let c = chosen a (λ n p. at (inside (case_at n) p)) cases in leave_switch now (eval_cases (go frame) c.at c.cases s))
eval_statement m go frame at (loop body continuing break_if) now = leave_scope now (go frame (in_loop (record { at = at; body = body; continuing = continuing; break_if = break_if })) now)
eval_statement m go frame at break now = completes by_break now
eval_statement m go frame at continue now = completes (by_continue []) now
eval_statement m go frame at (return value) now = completes (by_return value) now
eval_statement m go frame at kill now = completes halted now
eval_statement m go frame at (operation a) now = completes normal now
eval_statement m go frame at (call function arguments result) now = eval_call (slice_get m.functions function) go frame arguments now

module _ (u : UsedOperands) (m : PlainModule) where
  -- one step of a task, where `go` runs nested tasks; each statement and each iteration that begins takes a step
  abbrev pub eval_task : (Frame → Evaluation) → Frame → Evaluation
  eval_task go frame (in_block at stop) now = completes normal now
  eval_task go frame (in_block at (next s rest)) now = step now.steps now (λ begun. let r = eval_statement m go frame at s (begins u frame (at here) s begun) in
      sequence (introduced s ++ top_level rest) r.completion r.after (λ end. go frame (in_block (λ p. at (later p)) rest) (introduces u frame (introduced s) end)))
  eval_task go frame (in_loop l) now = step now.steps now (λ begun. eval_turn u frame (go frame) l begun)

  -- A task, with nesting up to this bound. The function is recursive in the bound, which never ends a run as long as
  -- it is greater than the number of remaining steps.
  abbrev pub eval : (nested : ℕ) → Frame → Evaluation
  eval zero frame task now = completes halted now
  eval (suc n) frame task now = eval_task (eval n) frame task now

-- ---- runs

-- a `Break` or `Continue` may not leave the entry point's body either
abbrev pub finish : PlainFunction → Completion → Configuration → List Event
finish f normal now = now.events ++ (fell_off f now.last ∷ [])
finish f by_break now = now.events ++ (escaped ∷ [])
finish f (by_continue left_out) now = now.events ++ (escaped ∷ [])
finish f (by_return value) now = now.events ++ (returned f value ∷ [])
finish f halted now = now.events

abbrev pub entry_frame : PlainFunction → Frame
entry_frame f = record { depth = 0; function = f; arguments = [] }

abbrev pub initial : List ℤ → ℕ → Configuration
initial answers n = record { live = []; skipped = []; last = None; answers = answers; steps = n; events = entered 0 ∷ [] }

-- the events of executing the function with these answers, in at most n steps
abbrev pub trace_of : UsedOperands → PlainModule → PlainFunction → List ℤ → ℕ → List Event
trace_of u m f answers n = let r = eval u m (suc n) (entry_frame f) (in_block (λ p. p) f.body) (initial answers n) in finish f r.completion r.after

-- the events of a run of an entry point
abbrev pub trace : UsedOperands → PlainModule → PlainEntry → List ℤ → ℕ → List Event
trace u m e answers n = trace_of u m e.function answers n
