-- The name of an item in an error.
use Rattle.std.specs.Prelude.{ℕ, List, [], Option, Some, None}

-- its own name, or the empty one if it has none
abbrev pub name_of : Option (List ℕ) → List ℕ
name_of (Some name) = name
name_of None = []
