-- Results of a search in a list: none, exactly one, or several.
use Rattle.std.specs.Prelude.{◌≡◌, ◌≤◌, List, [], ◌∷◌, length, Option, Some, None}
use Rattle.spec_interface.specs.declared.found.Found.{Found}
use Rattle.spec_interface.specs.declared.found.Found.TheVariants.{Nothing, One, More}

-- these are all matches
abbrev pub Stands : {T : Type 0} → Found T → List T → Type 0
Stands Nothing xs = xs ≡ []
Stands (One x) xs = xs ≡ x ∷ []
Stands More xs = 2 ≤ length xs

abbrev pub next : {T : Type 0} → Found T → Option T → Found T
next found None = found
next Nothing (Some x) = One x
next (One x) (Some y) = More
next More (Some y) = More
