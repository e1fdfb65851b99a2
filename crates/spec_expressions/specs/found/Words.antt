-- The names of the flags.
use Rattle.std.specs.Prelude.{List, [], ◌∷◌}
use Rattle.ir_flags.specs.Words.{Row, numbered}

abbrev pub global_use_words : List Row
global_use_words = numbered ("READ" ∷ "WRITE" ∷ "QUERY" ∷ "ATOMIC" ∷ [])

abbrev pub requirement_words : List Row
requirement_words = numbered ("WORK_GROUP_BARRIER" ∷ "DERIVATIVE" ∷ "IMPLICIT_LEVEL" ∷ "COOP_OPS" ∷ [])
