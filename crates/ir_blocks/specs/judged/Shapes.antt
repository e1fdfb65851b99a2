-- The shape of a statement: its control flow, without its operands.
use Rattle.std.specs.Prelude.{ℕ, zero, suc, Option, Some, None}
use Rattle.ir_blocks.specs.judged.Plain.{PlainStatement, emit, block, if_, switch, loop, break, continue, return, kill, operation, call, PlainBlock, stop, PlainCases, no_case, case}

-- how a statement leaves its block
pub data Exit : Type 0 where
  breaks : Exit
  continues : Exit
  returns : Exit
  kills : Exit

-- Every kind of statement has one of these shapes.
pub data Shape : Type 0 where
  simple : Shape
  leaves : Exit → Shape
  calls : (function : ℕ) → Shape
  nests : PlainBlock → Shape
  chooses : (accept reject : PlainBlock) → Shape
  switches : PlainCases → Shape
  loops : (body continuing : PlainBlock) → (break_if : Option ℕ) → Shape

abbrev pub shape_of : PlainStatement → Shape
shape_of (emit first end) = simple
shape_of (block b) = nests b
shape_of (if_ condition accept reject) = chooses accept reject
shape_of (switch selector cases) = switches cases
shape_of (loop body continuing break_if) = loops body continuing break_if
shape_of break = leaves breaks
shape_of continue = leaves continues
shape_of (return value) = leaves returns
shape_of kill = leaves kills
shape_of (operation a) = simple
shape_of (call function arguments result) = calls function

-- how it leaves its block, if it does
abbrev pub exit_of : Shape → Option Exit
exit_of s = elim s [ leaves exit ↦ Some exit | _ ↦ None ]

-- The parts that a statement may have: its nested blocks.
pub data Part : Type 0 where
  inner : Part
  accepting : Part
  rejecting : Part
  case_at : ℕ → Part
  loop_body : Part
  loop_continuing : Part

abbrev pub case_body : PlainCases → ℕ → PlainBlock
case_body no_case k = stop
case_body (case value body falls rest) zero = body
case_body (case value body falls rest) (suc k) = case_body rest k

-- the nested block at a part, empty if there is none
abbrev pub part_of : Shape → Part → PlainBlock
part_of (nests b) inner = b
part_of (chooses accept reject) accepting = accept
part_of (chooses accept reject) rejecting = reject
part_of (switches cases) (case_at k) = case_body cases k
part_of (loops body continuing break_if) loop_body = body
part_of (loops body continuing break_if) loop_continuing = continuing
part_of _ _ = stop
