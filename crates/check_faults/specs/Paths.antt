-- A path as text.
use Rattle.std.specs.Prelude.{ℕ, List, [], ◌∷◌, ◌++◌, Option, Some, None, codes, decimal}
use Rattle.check_faults.specs.declared.parts.Part.{Part}
use Rattle.check_faults.specs.Tables.{name_inside, part_inside}

-- a step into a part: its name, after the separator, or its index
abbrev pub step_text : (dot : List ℕ) → (index : ℕ) → Option (List ℕ) → List ℕ
step_text dot i None = codes "[" ++ decimal i ++ codes "]"
step_text dot i (Some name) = dot ++ name

abbrev pub steps_text : (dot : List ℕ) → Part → List ℕ → List ℕ
steps_text dot part [] = []
steps_text dot part (i ∷ is) = step_text dot i (name_inside part i) ++ steps_text (codes ".") (part_inside part i) is
