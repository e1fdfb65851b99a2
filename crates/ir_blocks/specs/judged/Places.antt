-- Places in a body, the statement at a place, and the places that precede it.
use Rattle.std.specs.Prelude.{◌≡◌, ℕ, Option, None}
use Rattle.ir_blocks.specs.judged.Plain.{PlainStatement, PlainBlock, stop, next}
use Rattle.ir_blocks.specs.judged.Shapes.{Shape, loops, shape_of, Part, loop_body, loop_continuing, part_of}

-- A place in a body is a path: the first statement, a place after the first statement, a place in a part of it, or its
-- condition, if it is a loop.
pub data Place : Type 0 where
  here : Place
  later : Place → Place
  inside : Part → Place → Place
  condition : Place

-- The statement is directly in the block, not nested.
pub data IsTop : Place → Type 0 where
  top_here : IsTop here
  top_later : {q : Place} → IsTop q → IsTop (later q)

-- q precedes p: q is earlier in a block that has p or a statement around p. For a place in a continuing block the top level of
-- that loop's body precedes too, and for a loop's condition also that of its continuing block.
pub data Before : Place → Place → Type 0 where
  earlier : {p : Place} → Before here (later p)
  both_later : {q p : Place} → Before q p → Before (later q) (later p)
  both_inside : {q p : Place} (part : Part) → Before q p → Before (inside part q) (inside part p)
  body_before_continuing : {q p : Place} → IsTop q → Before (inside loop_body q) (inside loop_continuing p)
  body_before_condition : {q : Place} → IsTop q → Before (inside loop_body q) condition
  continuing_before_condition : {q : Place} → IsTop q → Before (inside loop_continuing q) condition

-- What is at a place: nothing, a statement, or a loop's condition.
pub data Spot : Type 0 where
  nothing : Spot
  statement : PlainStatement → Spot
  loop_condition : Option ℕ → Spot

-- the condition of a loop, if it has one
abbrev pub condition_of : Shape → Option ℕ
condition_of s = elim s [ loops body continuing break_if ↦ break_if | _ ↦ None ]

abbrev pub spot_at : Place → PlainBlock → Spot
spot_at here stop = nothing
spot_at here (next s rest) = statement s
spot_at (later p) stop = nothing
spot_at (later p) (next s rest) = spot_at p rest
spot_at (inside part p) stop = nothing
spot_at (inside part p) (next s rest) = spot_at p (part_of (shape_of s) part)
spot_at condition stop = nothing
spot_at condition (next s rest) = loop_condition (condition_of (shape_of s))

-- the statement is at the place
abbrev pub OccursAt : PlainBlock → Place → PlainStatement → Type 0
OccursAt b p s = spot_at p b ≡ statement s
