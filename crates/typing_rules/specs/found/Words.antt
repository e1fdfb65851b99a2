-- The names of the bits.
use Rattle.std.specs.Prelude.{List, [], ◌∷◌}
use Rattle.ir_flags.specs.Words.{Row, numbered}

abbrev pub scalar_words : List Row
scalar_words = numbered ("ABSTRACT_INT" ∷ "I32" ∷ "U32" ∷ "I16" ∷ "U16" ∷ "I64" ∷ "U64" ∷ "ABSTRACT_FLOAT" ∷ "F32" ∷ "F16" ∷ "F64" ∷ "BOOL" ∷ [])

abbrev pub constructor_words : List Row
constructor_words = numbered ("SCALAR" ∷ "VEC2" ∷ "VEC3" ∷ "VEC4" ∷ "MAT2X2" ∷ "MAT2X3" ∷ "MAT2X4" ∷ "MAT3X2" ∷ "MAT3X3" ∷ "MAT3X4" ∷ "MAT4X2" ∷ "MAT4X3" ∷ "MAT4X4" ∷ [])
