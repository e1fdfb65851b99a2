-- Conversion ranks of scalars: the lower the rank, the better the conversion.
use Rattle.std.specs.Prelude.{ℕ, List, [], ◌∷◌, Option, Some, None, if◌then◌else◌}
use Rattle.ir_kinds.specs.declared.scalars.Scalar.{Scalar}
use Rattle.ir_kinds.specs.judged.Scalars.{signed, unsigned, floating, abstract_int, abstract_float, same_scalar}

-- the scalars an abstract float converts to, with the ranks
abbrev pub float_ranks : List (Scalar × ℕ)
float_ranks = (floating 4, 1) ∷ (floating 2, 2) ∷ (floating 8, 3) ∷ []

-- the scalars an abstract integer converts to, with the ranks
abbrev pub integer_ranks : List (Scalar × ℕ)
integer_ranks = (signed 4, 4) ∷ (unsigned 4, 5) ∷ (signed 2, 6) ∷ (unsigned 2, 7) ∷ (signed 8, 8) ∷ (unsigned 8, 9)
    ∷ (abstract_float, 10) ∷ (floating 4, 11) ∷ (floating 2, 12) ∷ (floating 8, 13) ∷ []

abbrev pub rank_in : List (Scalar × ℕ) → Scalar → Option ℕ
rank_in [] to = None
rank_in (row ∷ rows) to = if same_scalar row.0 to then Some row.1 else rank_in rows to

-- the rank of a conversion to another scalar, if there is one
abbrev pub conversion : Scalar → Scalar → Option ℕ
conversion from to = if same_scalar from abstract_int then rank_in integer_ranks to
    else if same_scalar from abstract_float then rank_in float_ranks to else None

-- the rank of a conversion, where a scalar has the best rank to itself
abbrev pub rank : Scalar → Scalar → Option ℕ
rank from to = if same_scalar from to then Some 0 else conversion from to
