-- What a walk of a body carries: the result expressions of calls and atomic operations so far, in order.
use Rattle.std.specs.Prelude.{◌≡◌, ◌↔◌, ℕ, zero, suc, List, [], ◌++◌, Contains, option_to_list}
use Rattle.ir_blocks.specs.judged.Places.{Place, here, later, inside, condition}
use Rattle.ir_blocks.specs.judged.Plain.{PlainStatement, emit, block, if_, switch, loop, break, continue, return, kill, operation, call, PlainBlock, stop, next, PlainCases, no_case, case}
use Rattle.ir_blocks.specs.judged.Shapes.{Part, rejecting, case_at, loop_continuing, shape_of, part_of}
use Rattle.spec_statements.specs.judged.Results.{answer_of, AnswersBy}

abbrev mutual
  -- the result expressions of a block, at any depth
  pub answered_in : PlainBlock → List ℕ
  answered_in stop = []
  answered_in (next s rest) = answered_at s ++ answered_in rest

  -- the result expressions of a statement and its nested statements
  pub answered_at : PlainStatement → List ℕ
  answered_at (emit first end) = []
  answered_at (block b) = answered_in b
  answered_at (if_ test accept reject) = answered_in accept ++ answered_in reject
  answered_at (switch selector cases) = answered_in_cases cases
  answered_at (loop body continuing break_if) = answered_in body ++ answered_in continuing
  answered_at break = []
  answered_at continue = []
  answered_at (return value) = []
  answered_at kill = []
  answered_at (operation a) = option_to_list (answer_of (operation a))
  answered_at (call function arguments result) = option_to_list (answer_of (call function arguments result))

  pub answered_in_cases : PlainCases → List ℕ
  answered_in_cases no_case = []
  answered_in_cases (case value body falls rest) = answered_in body ++ answered_in_cases rest

-- the result expressions of the cases before one
abbrev pub answered_before_case : PlainCases → ℕ → List ℕ
answered_before_case no_case k = []
answered_before_case (case value body falls rest) zero = []
answered_before_case (case value body falls rest) (suc k) = answered_in body ++ answered_before_case rest k

-- the result expressions in the parts of a statement before one
abbrev pub answered_before_part : PlainStatement → Part → List ℕ
answered_before_part (if_ test accept reject) rejecting = answered_in accept
answered_before_part (switch selector cases) (case_at k) = answered_before_case cases k
answered_before_part (loop body continuing break_if) loop_continuing = answered_in body
answered_before_part _ _ = []

-- the result expressions before a place, in program order, where `seen` are those before the body
abbrev pub answered_before : (seen : List ℕ) → Place → PlainBlock → List ℕ
answered_before seen here body = seen
answered_before seen (later p) stop = seen
answered_before seen (later p) (next s rest) = answered_before (seen ++ answered_at s) p rest
answered_before seen (inside part p) stop = seen
answered_before seen (inside part p) (next s rest) = answered_before (seen ++ answered_before_part s part) p (part_of (shape_of s) part)
answered_before seen condition stop = seen
answered_before seen condition (next s rest) = seen ++ answered_at s

-- no statement has a result expression seen before it
abbrev pub NoneAgain : PlainBlock → Type 0
NoneAgain body = (p : Place) (e : ℕ) → AnswersBy body p e → Contains (answered_before [] p body) e → ⊥

-- no two statements have the same result expression
abbrev pub EachOnce : PlainBlock → Type 0
EachOnce body = (p q : Place) (e : ℕ) → AnswersBy body p e → AnswersBy body q e → p ≡ q

abbrev pub OnceByWalk : Type 0
OnceByWalk = (body : PlainBlock) → NoneAgain body ↔ EachOnce body
