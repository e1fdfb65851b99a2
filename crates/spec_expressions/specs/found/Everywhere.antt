-- A test of statements at every place of a body.
use Rattle.std.specs.Prelude.{◌≡◌, Bool, true, ◌&&◌}
use Rattle.ir_items.specs.IrBlocks.{PlainStatement, emit, block, if_, switch, loop, break, continue, return, kill, operation, call, PlainBlock, stop, next, PlainCases, no_case, case, Place, OccursAt}

-- each statement of the body passes, at its place
abbrev pub PassesAtPlaces : (PlainStatement → Bool) → PlainBlock → Type 0
PassesAtPlaces ok b = (p : Place) (s : PlainStatement) → OccursAt b p s → ok s ≡ true

-- each statement of a body passes, computed step by step
abbrev mutual
  pub everywhere : (PlainStatement → Bool) → PlainBlock → Bool
  everywhere ok stop = true
  everywhere ok (next s rest) = in_statement ok s && everywhere ok rest

  -- the statement and its nested statements
  pub in_statement : (PlainStatement → Bool) → PlainStatement → Bool
  in_statement ok (emit first end) = ok (emit first end)
  in_statement ok (block b) = ok (block b) && everywhere ok b
  in_statement ok (if_ condition accept reject) = ok (if_ condition accept reject) && (everywhere ok accept && everywhere ok reject)
  in_statement ok (switch selector cases) = ok (switch selector cases) && in_cases ok cases
  in_statement ok (loop body continuing break_if) = ok (loop body continuing break_if) && (everywhere ok body && everywhere ok continuing)
  in_statement ok break = ok break
  in_statement ok continue = ok continue
  in_statement ok (return value) = ok (return value)
  in_statement ok kill = ok kill
  in_statement ok (operation a) = ok (operation a)
  in_statement ok (call function arguments result) = ok (call function arguments result)

  pub in_cases : (PlainStatement → Bool) → PlainCases → Bool
  in_cases ok no_case = true
  in_cases ok (case value body falls rest) = everywhere ok body && in_cases ok rest
