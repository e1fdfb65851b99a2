-- Whether a `Break`, `Continue`, `Return` or `Kill` is allowed, by the loops and switches around it.
use Rattle.std.specs.Prelude.{◌≡◌, Bool, true, false, IsTrue, List, [], ◌∷◌, Some}
use Rattle.ir_blocks.specs.judged.Plain.{PlainStatement, PlainBlock}
use Rattle.ir_blocks.specs.judged.Shapes.{Exit, breaks, continues, returns, kills, exit_of, shape_of, Part, inner, accepting, rejecting, case_at, loop_body, loop_continuing}
use Rattle.ir_blocks.specs.judged.Places.{Place, here, later, inside, condition, OccursAt}

-- the parts that enclose a place, innermost first
abbrev pub parts_around : List Part → Place → List Part
parts_around outer here = outer
parts_around outer (later p) = parts_around outer p
parts_around outer (inside part p) = parts_around (part ∷ outer) p
parts_around outer condition = outer

-- `Break` is allowed in a loop body or a case, with no continuing block between
abbrev pub breaks_in : List Part → Bool
breaks_in [] = false
breaks_in (inner ∷ outer) = breaks_in outer
breaks_in (accepting ∷ outer) = breaks_in outer
breaks_in (rejecting ∷ outer) = breaks_in outer
breaks_in (case_at k ∷ outer) = true
breaks_in (loop_body ∷ outer) = true
breaks_in (loop_continuing ∷ outer) = false

-- `Continue` is allowed in a loop body, with no continuing block between
abbrev pub continues_in : List Part → Bool
continues_in [] = false
continues_in (inner ∷ outer) = continues_in outer
continues_in (accepting ∷ outer) = continues_in outer
continues_in (rejecting ∷ outer) = continues_in outer
continues_in (case_at k ∷ outer) = continues_in outer
continues_in (loop_body ∷ outer) = true
continues_in (loop_continuing ∷ outer) = false

-- `Return` is allowed outside continuing blocks
abbrev pub returns_in : List Part → Bool
returns_in [] = true
returns_in (inner ∷ outer) = returns_in outer
returns_in (accepting ∷ outer) = returns_in outer
returns_in (rejecting ∷ outer) = returns_in outer
returns_in (case_at k ∷ outer) = returns_in outer
returns_in (loop_body ∷ outer) = returns_in outer
returns_in (loop_continuing ∷ outer) = false

-- `Kill` is allowed anywhere
abbrev pub may_leave : Exit → List Part → Bool
may_leave breaks outer = breaks_in outer
may_leave continues outer = continues_in outer
may_leave returns outer = returns_in outer
may_leave kills outer = true

-- each statement that leaves its block is allowed where it occurs
abbrev pub ControlOK : PlainBlock → Type 0
ControlOK b = (p : Place) (s : PlainStatement) (exit : Exit) → OccursAt b p s → exit_of (shape_of s) ≡ Some exit → IsTrue (may_leave exit (parts_around [] p))
