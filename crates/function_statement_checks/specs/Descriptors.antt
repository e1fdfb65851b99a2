-- Which types of a module are equivalent to its ray descriptor type.
use Rattle.std.specs.Prelude.{◌≡◌, ◌↔◌, ℕ, Bool, IsTrue, IsSomeAnd, List, Option, Some, slice_get}
use Rattle.ir_types.specs.judged.Plain.{PlainType}
use Rattle.typing_forms.specs.judged.Resolutions.{inner_at}

-- a type is equivalent to the declared one, if any
abbrev pub IsDescriptorAt : List PlainType → (declared : Option ℕ) → (type : ℕ) → Type 0
IsDescriptorAt types declared type = IsSomeAnd declared (λ d. inner_at types type ≡ inner_at types d)

-- marks are right in both directions; nothing is stated for a type without a mark
abbrev pub AreDescriptors : List PlainType → (declared : Option ℕ) → (marks : List Bool) → Type 0
AreDescriptors types declared marks = (type : ℕ) (marked : Bool) → slice_get marks type ≡ Some marked → IsTrue marked ↔ IsDescriptorAt types declared type
