-- Calls with a wrong number of arguments: the first, computed step by step, and what the fault states.
use Rattle.std.specs.Prelude.{◌≡◌, ◌≢◌, ◌==◌, ℕ, List, length, if◌then◌else◌, Option, Some, None, slice_get}
use Rattle.ir_blocks.specs.judged.Places.{Place, OccursAt}
use Rattle.ir_blocks.specs.judged.Plain.{PlainStatement, emit, block, if_, switch, loop, break, continue, return, kill, operation, call}
use Rattle.ir_items.specs.judged.Plain.{PlainFunction, PlainModule}
use Rattle.typing_handles.specs.declared.arities.ArityFault.{ArityFault}

-- the number of arguments of a function, if it exists
abbrev pub count_of : Option PlainFunction → Option ℕ
count_of None = None
count_of (Some f) = Some (length f.arguments)

abbrev pub fault_at : (function : ℕ) → (required : Option ℕ) → (seen : ℕ) → ArityFault
fault_at function required seen = record { function = function; required = required; seen = seen }

-- this number of arguments is passed, and the function has as many
abbrev pub wrong_count : (function seen : ℕ) → (required : Option ℕ) → Option ArityFault
wrong_count function seen None = Some (fault_at function None seen)
wrong_count function seen (Some required) = if required == seen then None else Some (fault_at function (Some required) seen)

abbrev pub arity_fault_of : PlainModule → PlainStatement → Option ArityFault
arity_fault_of m (emit first end) = None
arity_fault_of m (block b) = None
arity_fault_of m (if_ condition accept reject) = None
arity_fault_of m (switch selector cases) = None
arity_fault_of m (loop body continuing break_if) = None
arity_fault_of m break = None
arity_fault_of m continue = None
arity_fault_of m (return value) = None
arity_fault_of m kill = None
arity_fault_of m (operation a) = None
arity_fault_of m (call function arguments result) = wrong_count function (length arguments) (count_of (slice_get m.functions function))

-- The call at the place passes this many arguments to a function that does not exist, or has another number.
pub record PassesWrongCount (m : PlainModule) (f : PlainFunction) (x : ArityFault) (place : Place) : Type 0 where
  pub arguments : List ℕ
  pub answer : Option ℕ
  pub stands : OccursAt f.body place (call x.function arguments answer)
  pub has : x.required ≡ count_of (slice_get m.functions x.function)
  pub passed : x.seen ≡ length arguments
  pub differs : x.required ≢ Some x.seen
