-- Lists of distinct elements.
use Rattle.std.specs.Prelude.{◌≢◌, List}
use Rattle.std.specs.List.{AllPairs}

-- no entry is equal to a later one
abbrev pub AreDistinct : {A : Type 0} → List A → Type 0
AreDistinct xs = AllPairs (λ x y. x ≢ y) xs
