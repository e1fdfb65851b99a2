-- The identifier that an error begins with.
use Rattle.std.specs.Prelude.{ℕ, suc, List, [], ◌∷◌, ◌||◌, ◌==◌, Bool, if◌then◌else◌, take}
use Rattle.std.specs.Char.{is_ascii_alphanumeric}

-- a letter, a digit or `_`
abbrev pub is_name : ℕ → Bool
is_name b = is_ascii_alphanumeric b || b == 95

-- the length of the identifier at the start
abbrev pub name_length : List ℕ → ℕ
name_length [] = 0
name_length (b ∷ bs) = if is_name b then suc (name_length bs) else 0

abbrev pub head : List ℕ → List ℕ
head error = take (name_length error) error
