-- The bits of the type flags.
use Rattle.std.specs.Prelude.{List, [], ◌∷◌}
use Rattle.ir_flags.specs.Words.{Row, numbered}

abbrev pub type_flags : List Row
type_flags =
    numbered ("DATA" ∷ "SIZED" ∷ "COPY" ∷ "IO_SHAREABLE" ∷ "HOST_SHAREABLE" ∷ "CREATION_RESOLVED" ∷ "ARGUMENT" ∷
    "CONSTRUCTIBLE" ∷ [])
