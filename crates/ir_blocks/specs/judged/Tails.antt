-- The tail blocks of a body, and the body completed with returns.
use Rattle.std.specs.Prelude.{◌≡◌, ◌⊎◌, ℕ, zero, suc, Bool, true, false, IsTrue, if◌then◌else◌, None}
use Rattle.ir_blocks.specs.judged.Plain.{PlainStatement, emit, block, if_, switch, loop, break, continue, return, kill, operation, call, PlainBlock, stop, next, PlainCases, no_case, case}
use Rattle.ir_blocks.specs.found.View.{PlainCase}
use Rattle.ir_blocks.specs.judged.Shapes.{Shape, simple, calls, nests, chooses, switches, loops, shape_of, Part, inner, accepting, rejecting, case_at, part_of}
use Rattle.ir_blocks.specs.judged.Places.{Place, here, later, inside, OccursAt}

-- the case exists and doesn't fall through
abbrev pub CaseEnds : PlainCases → ℕ → Type 0
CaseEnds no_case k = ⊥
CaseEnds (case value body falls rest) zero = falls ≡ false
CaseEnds (case value body falls rest) (suc k) = CaseEnds rest k

-- a part that is a tail block if the statement is the last of a tail block
abbrev pub IsTailPart : Shape → Part → Type 0
IsTailPart (nests b) inner = Unit {0}
IsTailPart (chooses accept reject) accepting = Unit {0}
IsTailPart (chooses accept reject) rejecting = Unit {0}
IsTailPart (switches cases) (case_at k) = CaseEnds cases k
IsTailPart _ _ = ⊥

-- whether control continues after the statement: it is no jump, block, `if` or switch
abbrev pub goes_on : Shape → Bool
goes_on simple = true
goes_on (calls function) = true
goes_on (loops body continuing break_if) = true
goes_on _ = false

-- The place is an open end of a tail block: the block is empty, or control continues after its last statement. The
-- body is a tail block, and so are the tail parts of a tail block's last statement.
pub data IsOpenEnd : PlainBlock → Place → Type 0 where
  empty : IsOpenEnd stop here
  after_last : {s : PlainStatement} → IsTrue (goes_on (shape_of s)) → IsOpenEnd (next s stop) (later here)
  further : {s t : PlainStatement} {rest : PlainBlock} {p : Place} → IsOpenEnd (next t rest) p → IsOpenEnd (next s (next t rest)) (later p)
  in_tail : {s : PlainStatement} {p : Place} (part : Part) → IsTailPart (shape_of s) part → IsOpenEnd (part_of (shape_of s) part) p → IsOpenEnd (next s stop) (inside part p)

-- the cases with their blocks emptied
abbrev pub case_heads : PlainCases → PlainCases
case_heads no_case = no_case
case_heads (case value body falls rest) = case value stop falls (case_heads rest)

-- the statement with its nested blocks emptied
abbrev pub head_of : PlainStatement → PlainStatement
head_of (block b) = block stop
head_of (if_ condition accept reject) = if_ condition stop stop
head_of (switch selector cases) = switch selector (case_heads cases)
head_of (loop body continuing break_if) = loop stop stop break_if
head_of other = other

-- The body c is b completed with returns: it has a return without value at each open end of b, and at each statement's place
-- in b the same statement, up to its nested blocks; and it has no other statement.
pub record IsCompleted (b c : PlainBlock) : Type 0 where
  pub added : (p : Place) → IsOpenEnd b p → OccursAt c p (return None)
  pub kept : (p : Place) (s : PlainStatement) → OccursAt b p s → (t : PlainStatement) × OccursAt c p t × (head_of t ≡ head_of s)
  pub only : (p : Place) (t : PlainStatement) → OccursAt c p t → IsOpenEnd b p ⊎ ((s : PlainStatement) × OccursAt b p s)

-- ---- the completed body, as a function

-- a return without value, if control continues
abbrev pub ending : Bool → PlainBlock
ending true = next (return None) stop
ending false = stop

abbrev mutual
  pub completed : PlainBlock → PlainBlock
  completed stop = next (return None) stop
  completed (next s stop) = next (finished s) (ending (goes_on (shape_of s)))
  completed (next s (next t rest)) = next s (completed (next t rest))

  -- the last statement of a tail block, with its tail parts completed
  pub finished : PlainStatement → PlainStatement
  finished (emit first end) = emit first end
  finished (block b) = block (completed b)
  finished (if_ condition accept reject) = if_ condition (completed accept) (completed reject)
  finished (switch selector cases) = switch selector (finished_cases cases)
  finished (loop body continuing break_if) = loop body continuing break_if
  finished break = break
  finished continue = continue
  finished (return value) = return value
  finished kill = kill
  finished (operation a) = operation a
  finished (call function arguments result) = call function arguments result

  pub finished_cases : PlainCases → PlainCases
  finished_cases no_case = no_case
  finished_cases (case value body falls rest) = case value (if falls then body else completed body) falls (finished_cases rest)

-- the same for one case
abbrev pub finished_case : PlainCase → PlainCase
finished_case c = record { value = c.value; body = if c.falls then c.body else completed c.body; falls = c.falls }

-- `completed` computes the body completed with returns
abbrev pub CompletedByTails : Type 0
CompletedByTails = (b : PlainBlock) → IsCompleted b (completed b)

-- a body has only one completion with returns
abbrev pub OneCompleted : Type 0
OneCompleted = (b c : PlainBlock) → IsCompleted b c → c ≡ completed b

-- completing with returns is idempotent
abbrev pub CompletedOnce : Type 0
CompletedOnce = (b : PlainBlock) → completed (completed b) ≡ completed b
