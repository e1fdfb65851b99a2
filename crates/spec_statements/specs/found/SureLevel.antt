-- What a walk of a body carries for strict scope, which depends on what the top level of a loop's body keeps.
use Rattle.std.specs.Prelude.{◌↔◌, ◌⊎◌, ℕ, Bool, true, false, ◌||◌, List, [], ◌++◌, Contains}
use Rattle.ir_blocks.specs.judged.Places.{Place, here, later, inside, condition}
use Rattle.ir_blocks.specs.judged.Plain.{PlainStatement, emit, block, if_, switch, loop, break, continue, return, kill, operation, call, PlainBlock, stop, next, PlainCases, no_case, case}
use Rattle.ir_blocks.specs.judged.Shapes.{Part, inner, accepting, rejecting, case_at, loop_body, loop_continuing, shape_of, part_of}
use Rattle.spec_expressions.specs.IrItems.{PlainFunction}
use Rattle.spec_statements.specs.judged.Scope.{PreEmitted}
use Rattle.spec_statements.specs.judged.Strict.{InStrictScope}
use Rattle.spec_statements.specs.judged.Tables.{introduced}
use Rattle.spec_statements.specs.judged.Visible.{top_level}

-- ---- scope at a place, given what is kept

abbrev pub entering_by : (level : PlainBlock → List ℕ) → List ℕ → PlainStatement → Part → List ℕ
entering_by level outer s inner = outer
entering_by level outer s accepting = outer
entering_by level outer s rejecting = outer
entering_by level outer s (case_at k) = outer
entering_by level outer s loop_body = outer
entering_by level outer s loop_continuing = outer ++ level (part_of (shape_of s) loop_body)

abbrev pub at_condition_by : (level : PlainBlock → List ℕ) → List ℕ → PlainStatement → List ℕ
at_condition_by level outer s = (outer ++ level (part_of (shape_of s) loop_body)) ++ top_level (part_of (shape_of s) loop_continuing)

-- the expressions in scope at a place of a body, where `outer` are in scope before it, and `level` is what a loop's body keeps
abbrev pub visible_by : (level : PlainBlock → List ℕ) → (outer : List ℕ) → Place → PlainBlock → List ℕ
visible_by level outer here body = outer
visible_by level outer (later p) stop = outer
visible_by level outer (later p) (next s rest) = visible_by level (outer ++ introduced s) p rest
visible_by level outer (inside part p) stop = outer
visible_by level outer (inside part p) (next s rest) = visible_by level (entering_by level outer s part) p (part_of (shape_of s) part)
visible_by level outer condition stop = outer
visible_by level outer condition (next s rest) = at_condition_by level outer s

-- ---- `Continue`

-- a continue of the enclosing loop is in the block, in the statement, or in one of the cases
abbrev mutual
  pub holds_continue_in : PlainBlock → Bool
  holds_continue_in stop = false
  holds_continue_in (next s rest) = holds_continue s || holds_continue_in rest

  pub holds_continue : PlainStatement → Bool
  holds_continue (emit first end) = false
  holds_continue (block b) = holds_continue_in b
  holds_continue (if_ test accept reject) = holds_continue_in accept || holds_continue_in reject
  holds_continue (switch selector cases) = holds_continue_in_cases cases
  holds_continue (loop body continuing break_if) = false
  holds_continue break = false
  holds_continue continue = true
  holds_continue (return value) = false
  holds_continue kill = false
  holds_continue (operation a) = false
  holds_continue (call function arguments result) = false

  pub holds_continue_in_cases : PlainCases → Bool
  holds_continue_in_cases no_case = false
  holds_continue_in_cases (case value body falls rest) = holds_continue_in body || holds_continue_in_cases rest

-- ---- strict scope

abbrev pub unless : Bool → List ℕ → List ℕ
unless true es = []
unless false es = es

-- what the top level of a block introduces before the first statement that contains a continue
abbrev pub sure_level : PlainBlock → List ℕ
sure_level stop = []
sure_level (next s rest) = introduced s ++ unless (holds_continue s) (sure_level rest)

-- at each place of a function, an expression in strict scope is always so, or is carried there
abbrev pub StrictByWalk : Type 0
StrictByWalk = (f : PlainFunction) (p : Place) (e : ℕ) → InStrictScope f p e ↔ (PreEmitted f e ⊎ Contains (visible_by sure_level [] p f.body) e)
