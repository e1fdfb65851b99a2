-- The name of the item that a step rejects.
use Rattle.std.specs.Prelude.{ℕ, List, [], ◌∷◌, Option, codes, option_and_then}
use Rattle.serde_json.specs.Data.{Data}
use Rattle.serde_json.specs.Find.{as_str}
use Rattle.check_faults.specs.Parts.{along}
use Rattle.check_faults.specs.Tables.{lookup}

-- the list of a step, and the index of the name in its items
abbrev pub named : List (List ℕ × (ℕ × ℕ))
named = (codes "layout", (5, 0)) ∷ (codes "type", (5, 0)) ∷ (codes "constant", (8, 0)) ∷ (codes "override", (9, 0)) ∷ (codes "global", (11, 0)) ∷ (codes "function", (12, 0)) ∷ (codes "entry", (13, 1)) ∷ []

abbrev pub name_at : Data → ℕ → (ℕ × ℕ) → Option (List ℕ)
name_at d index place = option_and_then as_str (along (place.0 ∷ index ∷ place.1 ∷ []) d)

abbrev pub item_name : Data → (step : List ℕ) → (index : ℕ) → Option (List ℕ)
item_name d step index = option_and_then (name_at d index) (lookup step named)
