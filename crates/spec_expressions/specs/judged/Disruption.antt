-- Non-uniform control flow.
use Rattle.std.specs.Prelude.{◌≡◌, ℕ, Bool, false, ◌||◌, IsTrue, Option, Some, is_some}
use Rattle.ir_items.specs.IrBlocks.{PlainStatement, emit, block, if_, switch, loop, break, continue, return, kill, operation, call, PlainBlock, stop, next, PlainCases, no_case, case, Part, loop_continuing, shape_of, part_of, Place, here, later, inside, condition, Before, OccursAt}
use Rattle.spec_expressions.specs.judged.Kinds.{statement_row}
use Rattle.spec_expressions.specs.judged.Positions.{Holds, Around}

-- the value that selects which of a statement's parts runs
abbrev pub chosen_by : PlainStatement → Option ℕ
chosen_by s = (statement_row s).chosen

-- the statement is a return or a discard
abbrev pub is_end : PlainStatement → Bool
is_end s = is_some (statement_row s).ends

-- At r is a return or a discard, in a statement that comes before p, or as that statement.
pub record IsEndBefore (body : PlainBlock) (p r : Place) : Type 0 where
  pub end : PlainStatement
  pub stands : OccursAt body r end
  pub ends : IsTrue (is_end end)
  pub earlier : Place
  pub holds : Holds earlier r
  pub before : Before earlier p

-- A place is disrupted inside a branch on a non-uniform value, and after an earlier statement that
-- contains a disrupted return or discard: one in a block that contains the place or an enclosing statement, where a loop's body
-- comes before its continuing block. `outer`: the whole body is disrupted.
pub data Disrupted (varies : ℕ → Type 0) (outer : Bool) (body : PlainBlock) : Place → Type 0 where
  already : {p : Place} → IsTrue outer → Disrupted varies outer body p
  chosen : {p a : Place} (s : PlainStatement) (h : ℕ) → Around a p → OccursAt body a s → chosen_by s ≡ Some h → varies h → Disrupted varies outer body p
  after : {p r : Place} → IsEndBefore body p r → Disrupted varies outer body r → Disrupted varies outer body p

-- ---- the same, computed step by step

abbrev mutual
  -- the body contains a disrupted return or discard, given whether it is disrupted as a whole
  pub ends_in : (ℕ → Bool) → Bool → PlainBlock → Bool
  ends_in varies d stop = false
  ends_in varies d (next s rest) = ends_at varies d s || ends_in varies (d || ends_at varies d s) rest

  pub ends_at : (ℕ → Bool) → Bool → PlainStatement → Bool
  ends_at varies d (emit first end) = false
  ends_at varies d (block b) = ends_in varies d b
  ends_at varies d (if_ h accept reject) = ends_in varies (d || varies h) accept || ends_in varies (d || varies h) reject
  ends_at varies d (switch h cases) = ends_in_cases varies (d || varies h) cases
  ends_at varies d (loop body continuing break_if) = ends_in varies d body || ends_in varies (d || ends_in varies d body) continuing
  ends_at varies d break = false
  ends_at varies d continue = false
  ends_at varies d (return value) = d
  ends_at varies d kill = d
  ends_at varies d (operation a) = false
  ends_at varies d (call function arguments result) = false

  pub ends_in_cases : (ℕ → Bool) → Bool → PlainCases → Bool
  ends_in_cases varies d no_case = false
  ends_in_cases varies d (case value body falls rest) = ends_in varies d body || ends_in_cases varies d rest

-- whether a part of a statement is disrupted at its start
abbrev pub enter : (ℕ → Bool) → Bool → PlainStatement → Part → Bool
enter varies d (if_ h accept reject) part = d || varies h
enter varies d (switch h cases) part = d || varies h
enter varies d (loop body continuing break_if) loop_continuing = d || ends_in varies d body
enter varies d (loop body continuing break_if) part = d
enter varies d (emit first end) part = d
enter varies d (block b) part = d
enter varies d break part = d
enter varies d continue part = d
enter varies d (return value) part = d
enter varies d kill part = d
enter varies d (operation a) part = d
enter varies d (call function arguments result) part = d

-- whether a loop's condition is disrupted
abbrev pub at_condition : (ℕ → Bool) → Bool → PlainStatement → Bool
at_condition varies d (loop body continuing break_if) = d || ends_at varies d (loop body continuing break_if)
at_condition varies d (emit first end) = d
at_condition varies d (block b) = d
at_condition varies d (if_ h accept reject) = d
at_condition varies d (switch h cases) = d
at_condition varies d break = d
at_condition varies d continue = d
at_condition varies d (return value) = d
at_condition varies d kill = d
at_condition varies d (operation a) = d
at_condition varies d (call function arguments result) = d

abbrev pub disrupted_at : (ℕ → Bool) → Bool → Place → PlainBlock → Bool
disrupted_at varies d here body = d
disrupted_at varies d (later p) stop = d
disrupted_at varies d (later p) (next s rest) = disrupted_at varies (d || ends_at varies d s) p rest
disrupted_at varies d (inside part p) stop = d
disrupted_at varies d (inside part p) (next s rest) = disrupted_at varies (enter varies d s part) p (part_of (shape_of s) part)
disrupted_at varies d condition stop = d
disrupted_at varies d condition (next s rest) = at_condition varies d s
