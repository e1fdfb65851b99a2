-- What a walk of a body carries: the expressions in scope so far, in order.
use Rattle.std.specs.Prelude.{◌↔◌, ◌⊎◌, ℕ, List, [], ◌++◌, Contains}
use Rattle.ir_blocks.specs.judged.Places.{Place, here, later, inside, condition}
use Rattle.ir_blocks.specs.judged.Plain.{PlainStatement, PlainBlock, stop, next}
use Rattle.ir_blocks.specs.judged.Shapes.{Part, inner, accepting, rejecting, case_at, loop_body, loop_continuing, shape_of, part_of}
use Rattle.spec_expressions.specs.IrItems.{PlainFunction}
use Rattle.spec_statements.specs.judged.Scope.{PreEmitted, InScope}
use Rattle.spec_statements.specs.judged.Tables.{introduced}

-- what the statements of a block introduce, without nested statements
abbrev pub top_level : PlainBlock → List ℕ
top_level stop = []
top_level (next s rest) = introduced s ++ top_level rest

-- the expressions in scope at the start of a nested block: in a continuing block also what the loop's body introduced, because a
-- continuing block runs after the body and inherits its scope
abbrev pub entering : List ℕ → PlainStatement → Part → List ℕ
entering outer s inner = outer
entering outer s accepting = outer
entering outer s rejecting = outer
entering outer s (case_at k) = outer
entering outer s loop_body = outer
entering outer s loop_continuing = outer ++ top_level (part_of (shape_of s) loop_body)

-- the expressions in scope at a loop's condition
abbrev pub at_condition : List ℕ → PlainStatement → List ℕ
at_condition outer s = (outer ++ top_level (part_of (shape_of s) loop_body)) ++ top_level (part_of (shape_of s) loop_continuing)

-- the expressions in scope at a place, where `outer` are in scope before the body
abbrev pub visible : (outer : List ℕ) → Place → PlainBlock → List ℕ
visible outer here body = outer
visible outer (later p) stop = outer
visible outer (later p) (next s rest) = visible (outer ++ introduced s) p rest
visible outer (inside part p) stop = outer
visible outer (inside part p) (next s rest) = visible (entering outer s part) p (part_of (shape_of s) part)
visible outer condition stop = outer
visible outer condition (next s rest) = at_condition outer s

-- at each place of a function, an expression in scope is always so, or is carried there
abbrev pub ScopeByWalk : Type 0
ScopeByWalk = (f : PlainFunction) (p : Place) (e : ℕ) → InScope f p e ↔ (PreEmitted f e ⊎ Contains (visible [] p f.body) e)
