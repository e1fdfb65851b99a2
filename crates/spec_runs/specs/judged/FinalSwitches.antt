-- Breaks out of the switches at the end of a body.
use Rattle.ir_blocks.specs.judged.Places.{Place, here, later, inside}
use Rattle.ir_blocks.specs.judged.Plain.{PlainStatement, switch, break, PlainBlock, stop, next, PlainCases}
use Rattle.ir_blocks.specs.judged.Shapes.{Part, inner, accepting, rejecting, case_at, shape_of, part_of}
use Rattle.ir_blocks.specs.judged.Tails.{IsTailPart}
use Rattle.std.specs.Prelude.{ℕ}

-- a break in such a part leaves an enclosing statement
pub data IsOpenPart : Part → Type 0 where
  in_block : IsOpenPart inner
  in_accept : IsOpenPart accepting
  in_reject : IsOpenPart rejecting

-- The place is that of a break in the block, not inside a loop or switch of the block.
pub data BreaksFrom : PlainBlock → Place → Type 0 where
  break_here : {rest : PlainBlock} → BreaksFrom (next break rest) here
  break_later : {s : PlainStatement} {rest : PlainBlock} {p : Place} → BreaksFrom rest p → BreaksFrom (next s rest) (later p)
  break_inside : {s : PlainStatement} {rest : PlainBlock} {p : Place} (part : Part) → IsOpenPart part → BreaksFrom (part_of (shape_of s) part) p → BreaksFrom (next s rest) (inside part p)

-- The place is that of a break out of a final switch of a tail block: of its last statement, if that is a switch, or of
-- a final switch of a nested tail block.
pub data LeavesFinalSwitch : PlainBlock → Place → Type 0 where
  of_last : {selector : ℕ} {cases : PlainCases} {p : Place} (k : ℕ) → BreaksFrom (part_of (shape_of (switch selector cases)) (case_at k)) p → LeavesFinalSwitch (next (switch selector cases) stop) (inside (case_at k) p)
  of_tail : {s : PlainStatement} {p : Place} (part : Part) → IsTailPart (shape_of s) part → LeavesFinalSwitch (part_of (shape_of s) part) p → LeavesFinalSwitch (next s stop) (inside part p)
  of_rest : {s t : PlainStatement} {rest : PlainBlock} {p : Place} → LeavesFinalSwitch (next t rest) p → LeavesFinalSwitch (next s (next t rest)) (later p)
