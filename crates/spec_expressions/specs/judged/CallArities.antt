-- When the calls of a function pass as many arguments as their callees have.
use Rattle.std.specs.Prelude.{◌≡◌, ℕ, List, length, Option, Some, slice_get}
use Rattle.ir_items.specs.IrBlocks.{Place, OccursAt, call}
use Rattle.ir_items.specs.judged.Plain.{PlainFunction, PlainModule}

-- each callee exists and has as many arguments as are passed
abbrev pub AritiesMatch : PlainModule → PlainFunction → Type 0
AritiesMatch m f = (p : Place) (callee : ℕ) (arguments : List ℕ) (result : Option ℕ) → OccursAt f.body p (call callee arguments result)
    → (g : PlainFunction) × (slice_get m.functions callee ≡ Some g) × (length arguments ≡ length g.arguments)
