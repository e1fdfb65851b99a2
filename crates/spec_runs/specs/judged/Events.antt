-- Events of a run.
use Rattle.std.specs.Prelude.{ℕ, List, Option}
use Rattle.ir_blocks.specs.judged.Places.{Place}
use Rattle.ir_items.specs.judged.Plain.{PlainFunction}

-- An event about a function contains it: a function of the module, or that of the entry point.
pub data Event : Type 0 where
  -- a function is entered at this call depth, the entry point's at 0
  entered : (depth : ℕ) → Event
  -- the statement at the place is executed
  executed : PlainFunction → Place → Event
  -- a statement introduces the expression into scope
  introduced_expression : PlainFunction → (expression : ℕ) → Event
  -- the global variable is referred to
  named : (global : ℕ) → Event
  -- the image is sampled with the sampler, both global variables
  sampled : (image sampler : ℕ) → Event
  -- an operand is used, while these expressions are live and these skipped
  used : PlainFunction → (live skipped : List ℕ) → (operand : ℕ) → Event
  -- a function is called with these expressions of its caller
  passed : (caller callee : PlainFunction) → (arguments : List ℕ) → Event
  -- a function returns, with or without a value
  returned : PlainFunction → (value : Option ℕ) → Event
  -- control reaches the end of a function's body, where the last statement executed in it is at the place
  fell_off : PlainFunction → (last : Option Place) → Event
  -- a break, a continue or a return leaves a continuing block, or a break or a continue leaves the body of a function
  escaped : Event
