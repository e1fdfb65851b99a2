-- Lookup of parts of a document.
use Rattle.std.specs.Prelude.{ℕ, List, [], ◌∷◌, Option, Some, None, Bool, option_and_then, nat_eq}
use Rattle.std.specs.Option.{option_eq}
use Rattle.serde_json.specs.Data.{Data, Items, no_items}
use Rattle.serde_json.specs.Find.{as_array, as_number, as_str, as_u64, at}

-- the part at a path
abbrev pub along : List ℕ → Data → Option Data
along [] d = Some d
along (i ∷ is) d = option_and_then (along is) (at i d)

abbrev items_or_none : Option Items → Items
items_or_none None = no_items
items_or_none (Some ds) = ds

-- the elements of an array, or none for any other value
abbrev pub parts : Data → Items
parts d = items_or_none (as_array d)

abbrev text_or_none : Option (List ℕ) → List ℕ
text_or_none None = []
text_or_none (Some t) = t

abbrev text_in : Option Data → List ℕ
text_in None = []
text_in (Some d) = text_or_none (as_str d)

abbrev word_or : (first : Option Data) → Option (List ℕ) → List ℕ
word_or first None = text_in first
word_or first (Some t) = t

-- a string, or the string that an array begins with
abbrev pub word : Data → List ℕ
word d = word_or (at 0 d) (as_str d)

abbrev word_in : Option Data → List ℕ
word_in None = []
word_in (Some d) = word d

-- the word at an index, or the first of the array there
abbrev pub word_at : Data → ℕ → List ℕ
word_at d i = word_in (at i d)

abbrev pub number : Data → Option ℕ
number d = option_and_then as_u64 (as_number d)

abbrev pub number_at : Data → ℕ → Option ℕ
number_at d i = option_and_then number (at i d)

abbrev pub is_number_at : Data → ℕ → ℕ → Bool
is_number_at d i n = option_eq nat_eq (number_at d i) (Some n)
