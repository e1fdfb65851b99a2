-- Whole lines.
use Rattle.std.specs.Prelude.{◌≡◌, ◌⊎◌, ◌++◌, ℕ, List, [], codes}

-- it is empty, or ends with a line feed
abbrev pub AreWhole : List ℕ → Type 0
AreWhole text = (text ≡ []) ⊎ ((front : List ℕ) × (text ≡ front ++ codes "\n"))
