-- Lists that begin with another list.
use Rattle.std.specs.Prelude.{◌≡◌, ℕ, Bool, true, List, [], ◌∷◌}

-- each element of the other is equal to the one at its index
abbrev pub BeginsWith : {T : Type 0} → (T → T → Bool) → List T → List T → Type 0
BeginsWith eq values [] = Unit {0}
BeginsWith eq [] (other ∷ others) = ⊥
BeginsWith eq (value ∷ values) (other ∷ others) = (eq other value ≡ true) × BeginsWith eq values others
