-- The scalars that a pipeline can set, in two parts.
use Rattle.std.specs.Prelude.{List, [], ◌∷◌}
use Rattle.ir_kinds.specs.judged.Scalars.{boolean, signed, unsigned, floating}
use Rattle.ir_kinds.specs.declared.scalars.Scalar.{Scalar}

abbrev pub integer_scalars : List Scalar
integer_scalars = boolean ∷ signed 4 ∷ unsigned 4 ∷ []

abbrev pub float_scalars : List Scalar
float_scalars = floating 2 ∷ floating 4 ∷ floating 8 ∷ []
