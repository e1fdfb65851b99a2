-- What each statement of a body leaves of a set, in order.
use Rattle.std.specs.Prelude.{ℕ}
use Rattle.std.specs.Int.RustNames.{bit_and}
use Rattle.ir_blocks.specs.judged.Plain.{PlainStatement, emit, block, if_, switch, loop, break, continue, return, kill, operation, call, PlainBlock, stop, next, PlainCases, no_case, case}

abbrev mutual
  pub left_in : (PlainStatement → ℕ) → ℕ → PlainBlock → ℕ
  left_in set left stop = left
  left_in set left (next s rest) = left_in set (left_within set (bit_and left (set s)) s) rest

  -- by inner blocks
  pub left_within : (PlainStatement → ℕ) → ℕ → PlainStatement → ℕ
  left_within set left (emit first end) = left
  left_within set left (block b) = left_in set left b
  left_within set left (if_ test accept reject) = left_in set (left_in set left accept) reject
  left_within set left (switch selector cases) = left_in_cases set left cases
  left_within set left (loop body continuing break_if) = left_in set (left_in set left body) continuing
  left_within set left break = left
  left_within set left continue = left
  left_within set left (return value) = left
  left_within set left kill = left
  left_within set left (operation a) = left
  left_within set left (call function arguments result) = left

  pub left_in_cases : (PlainStatement → ℕ) → ℕ → PlainCases → ℕ
  left_in_cases set left no_case = left
  left_in_cases set left (case value body falls rest) = left_in_cases set (left_in set left body) rest
