-- The values in the object of a validation result.
use Rattle.std.specs.Prelude.{ℕ, List, ◌≡◌, Option, Some, None, map}
use Rattle.serde_json.specs.Data.{Data, null, number, string, array, unsigned}
use Rattle.serde_json.specs.Find.{get}
use Rattle.serde_json.specs.View.{items_of}

abbrev pub plain : ℕ → Data
plain n = number (unsigned n)

-- a number, or null
abbrev pub number_or_null : Option ℕ → Data
number_or_null None = null
number_or_null (Some n) = plain n

-- a string, or null
abbrev pub text_or_null : Option (List ℕ) → Data
text_or_null None = null
text_or_null (Some t) = string t

-- the indices of a path
abbrev pub steps : List ℕ → Data
steps is = array (items_of (map plain is))

-- an object has this value at a key
abbrev pub Has : Data → List ℕ → Data → Type 0
Has d key value = get key d ≡ Some value
