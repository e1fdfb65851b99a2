-- How statements may leave their block, as context along a body.
use Rattle.std.specs.Prelude.{◌≡◌, ℕ, Bool, true, false, IsTrue, Some}
use Rattle.typing_errors.specs.declared.error.FunctionError.{FunctionError}
use Rattle.typing_errors.specs.declared.error.FunctionError.TheVariants as error
use Rattle.ir_blocks.specs.judged.Places.{Place, here, later, condition}
use Rattle.ir_blocks.specs.judged.Places as at
use Rattle.ir_blocks.specs.judged.Plain.{PlainStatement, emit, block, if_, switch, loop, break, continue, return, kill, operation, call, PlainBlock, stop, next, PlainCases, no_case, case}
use Rattle.ir_blocks.specs.judged.Shapes.{Exit, breaks, continues, returns, kills, Part, inner, accepting, rejecting, case_at, loop_body, loop_continuing, exit_of, shape_of, case_body}
use Rattle.ir_places.specs.Paths.{later_by}
use Rattle.ir_places.specs.Stands.{StandsAt}
use Rattle.function_body_checks.specs.declared.allowed.Allowed.{Allowed}
use Rattle.function_body_checks.specs.declared.allowed.Wrong.{Wrong}
use Rattle.function_body_checks.specs.declared.allowed.Wrong.TheVariants as wrong

pub record MayLeave : Type 0 where
  pub by_break : Bool
  pub by_continue : Bool
  pub by_return : Bool

abbrev pub view_of : Allowed → MayLeave
view_of a = record { by_break = a.breaks; by_continue = a.continues; by_return = a.returns }

-- in a function's body
abbrev pub in_body : MayLeave
in_body = record { by_break = false; by_continue = false; by_return = true }

-- inside a part of a statement
abbrev pub inside : Part → MayLeave → MayLeave
inside inner m = m
inside accepting m = m
inside rejecting m = m
inside (case_at k) m = record { by_break = true; by_continue = m.by_continue; by_return = m.by_return }
inside loop_body m = record { by_break = true; by_continue = true; by_return = m.by_return }
inside loop_continuing m = record { by_break = false; by_continue = false; by_return = false }

-- at a place of a body
abbrev pub at_place : MayLeave → Place → MayLeave
at_place m here = m
at_place m (later p) = at_place m p
at_place m (at.inside part p) = at_place (inside part m) p
at_place m condition = m

abbrev pub allows : MayLeave → Exit → Bool
allows m breaks = m.by_break
allows m continues = m.by_continue
allows m returns = m.by_return
allows m kills = true

-- ---- along a body

abbrev mutual
  pub AllLeave : MayLeave → PlainBlock → Type 0
  AllLeave m stop = Unit {0}
  AllLeave m (next s rest) = LeavesWithin m s × AllLeave m rest

  -- a statement, and those inside it
  pub LeavesWithin : MayLeave → PlainStatement → Type 0
  LeavesWithin m (emit first end) = Unit {0}
  LeavesWithin m (block b) = AllLeave m b
  LeavesWithin m (if_ test accept reject) = AllLeave m accept × AllLeave m reject
  LeavesWithin m (switch selector cases) = CasesLeave (inside (case_at 0) m) cases
  LeavesWithin m (loop body continuing break_if) = AllLeave (inside loop_body m) body × AllLeave (inside loop_continuing m) continuing
  LeavesWithin m break = IsTrue m.by_break
  LeavesWithin m continue = IsTrue m.by_continue
  LeavesWithin m (return value) = IsTrue m.by_return
  LeavesWithin m kill = Unit {0}
  LeavesWithin m (operation a) = Unit {0}
  LeavesWithin m (call function arguments answer) = Unit {0}

  pub CasesLeave : MayLeave → PlainCases → Type 0
  CasesLeave m no_case = Unit {0}
  CasesLeave m (case value body falls rest) = AllLeave m body × CasesLeave m rest

-- the error of a statement that leaves its block where it may not
abbrev pub error_of : Wrong → FunctionError
error_of wrong.Break = error.BreakOutsideOfLoopOrSwitch
error_of wrong.Continue = error.ContinueOutsideOfLoop
error_of wrong.Return = error.InvalidReturnSpot

-- the exit named by the error
abbrev pub IsExitError : Exit → Wrong → Type 0
IsExitError breaks wrong.Break = Unit {0}
IsExitError continues wrong.Continue = Unit {0}
IsExitError returns wrong.Return = Unit {0}
IsExitError _ _ = ⊥

-- a statement leaves its block in this way where it may not
pub record LeavesBadly (e : Wrong) (m : MayLeave) (s : PlainStatement) : Type 0 where
  pub exit : Exit
  pub leaves : exit_of (shape_of s) ≡ Some exit
  pub told : IsExitError exit e
  pub refused : allows m exit ≡ false

-- one does in a body that has this context
abbrev pub LeftAt : Wrong → MayLeave → PlainBlock → Place → Type 0
LeftAt e m b p = StandsAt (LeavesBadly e (at_place m p)) b p

-- relative to a block that has the statement at an index
abbrev pub LeftFrom : Wrong → MayLeave → (index : ℕ) → PlainStatement → Place → Type 0
LeftFrom e m k s p = (q : Place) × (p ≡ later_by k q) × LeftAt e m (next s stop) q

-- of an inner block of that statement
abbrev pub LeftInPart : Wrong → MayLeave → (index : ℕ) → Part → PlainBlock → Place → Type 0
LeftInPart e m k part b p = (q : Place) × (p ≡ later_by k (at.inside part q)) × LeftAt e m b q

abbrev pub LeftInCase : Wrong → MayLeave → (index : ℕ) → PlainCases → Place → Type 0
LeftInCase e m k cases p = (c : ℕ) × LeftInPart e m k (case_at c) (case_body cases c) p
