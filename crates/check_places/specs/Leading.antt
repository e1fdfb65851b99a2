-- Prefixes of a path that lead to a part of a document.
use Rattle.std.specs.Prelude.{ℕ, suc, List, [], ◌∷◌, Option, Some, None, IsSome, option_map}
use Rattle.serde_json.specs.Data.{Data}
use Rattle.serde_json.specs.Find.{at}
use Rattle.check_faults.specs.Parts.{along}

-- the path leads to a part of the document
abbrev pub Leads : List ℕ → Data → Type 0
Leads path d = IsSome (along path d)

abbrev pub one_more : Option ℕ → ℕ
one_more None = 0
one_more (Some n) = suc n

-- the length of the longest such prefix
abbrev pub lead_length : List ℕ → Data → ℕ
lead_length [] d = 0
lead_length (i ∷ is) d = one_more (option_map (lead_length is) (at i d))
