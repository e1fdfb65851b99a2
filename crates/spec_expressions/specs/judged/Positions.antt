-- Places and the statements that contain them.
use Rattle.ir_items.specs.IrBlocks.{Part, Place, here, later, inside}

-- The statement at r is the one at q, or nested in it.
pub data Holds : Place → Place → Type 0 where
  itself : Holds here here
  in_part : {r : Place} (part : Part) → Holds here (inside part r)
  holds_later : {q r : Place} → Holds q r → Holds (later q) (later r)
  holds_inside : {q r : Place} (part : Part) → Holds q r → Holds (inside part q) (inside part r)

-- p is in a nested part of the statement at a.
pub data Around : Place → Place → Type 0 where
  around : {p : Place} (part : Part) → Around here (inside part p)
  around_later : {a p : Place} → Around a p → Around (later a) (later p)
  around_inside : {a p : Place} (part : Part) → Around a p → Around (inside part a) (inside part p)
