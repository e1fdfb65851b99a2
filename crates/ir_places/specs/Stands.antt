-- A statement with a property, at a place.
use Rattle.std.specs.Prelude.{◌≡◌, ℕ}
use Rattle.ir_blocks.specs.judged.Places.{Place, OccursAt}
use Rattle.ir_blocks.specs.judged.Places as at
use Rattle.ir_blocks.specs.judged.Plain.{PlainStatement, PlainBlock, stop, next, PlainCases}
use Rattle.ir_blocks.specs.judged.Shapes as shape
use Rattle.ir_places.specs.Paths.{later_by}

-- the statement at the place has the property
abbrev pub StandsAt : (PlainStatement → Type 0) → PlainBlock → Place → Type 0
StandsAt P b p = (s : PlainStatement) × OccursAt b p s × P s

-- the same for a statement, relative to a block that has it at an index
abbrev pub StandsFrom : (PlainStatement → Type 0) → (index : ℕ) → PlainStatement → Place → Type 0
StandsFrom P k s p = (q : Place) × (p ≡ later_by k q) × StandsAt P (next s stop) q

-- for a nested block of that statement
abbrev pub StandsInPart : (PlainStatement → Type 0) → (index : ℕ) → shape.Part → PlainBlock → Place → Type 0
StandsInPart P k part b p = (q : Place) × (p ≡ later_by k (at.inside part q)) × StandsAt P b q

-- for a case of that statement
abbrev pub StandsInCase : (PlainStatement → Type 0) → (index : ℕ) → PlainCases → Place → Type 0
StandsInCase P k cases p = (c : ℕ) × StandsInPart P k (shape.case_at c) (shape.case_body cases c) p
