-- Lists of which a collection rejects an item.
use Rattle.std.specs.Prelude.{◌≡◌, List, ◌∷◌, ◌++◌, map, Option, Some, None}

-- The list begins with the items that were appended, followed by an item that is rejected.
pub record IsRefused {T A : Type 0} (refuses : List T → T → Type 0) (view : T → A) (xs : List A) : Type 0 where
  pub taken : List T
  pub item : T
  pub rest : List A
  pub is : xs ≡ map view taken ++ view item ∷ rest
  pub refused : refuses taken item

-- no list is decoded, or one of which an item is rejected
abbrev pub NoneTaken : {T A : Type 0} → (List T → T → Type 0) → (T → A) → Option (List A) → Type 0
NoneTaken refuses view None = Unit {0}
NoneTaken refuses view (Some xs) = IsRefused refuses view xs
