-- The scalar type of each literal, and the literals 0, 1 and -1 of each scalar type.
use Rattle.std.specs.Prelude.{ℕ, pos, negsuc, ◌+◌, ◌-◌, ◌*◌, ◌^◌, List, [], ◌∷◌, Option, Some, None, true, false, if◌then◌else◌}
use Rattle.ir_kinds.specs.declared.scalars.Scalar.{Scalar}
use Rattle.ir_kinds.specs.declared.values.Literal.{Literal}
use Rattle.ir_kinds.specs.declared.values.Literal.TheVariants as literal
use Rattle.ir_kinds.specs.judged.Scalars.{signed, unsigned, floating, boolean, abstract_int, abstract_float, same_scalar}

-- the scalar type of a literal
abbrev pub literal_scalar : Literal → Scalar
literal_scalar (literal.F64 bits) = floating 8
literal_scalar (literal.F32 bits) = floating 4
literal_scalar (literal.F16 bits) = floating 2
literal_scalar (literal.U16 n) = unsigned 2
literal_scalar (literal.I16 z) = signed 2
literal_scalar (literal.U32 n) = unsigned 4
literal_scalar (literal.I32 z) = signed 4
literal_scalar (literal.U64 n) = unsigned 8
literal_scalar (literal.I64 z) = signed 8
literal_scalar (literal.Bool b) = boolean
literal_scalar (literal.AbstractInt z) = abstract_int
literal_scalar (literal.AbstractFloat bits) = abstract_float

-- ---- the bits of 1 and of -1 as a float of a given width, with a given number of fraction bits

-- the biased exponent of 1, which is half of the greatest
abbrev pub bias : ℕ → ℕ → ℕ
bias bits fraction = 2 ^ (bits - fraction - 2) - 1

abbrev pub one_bits : ℕ → ℕ → ℕ
one_bits bits fraction = bias bits fraction * 2 ^ fraction

abbrev pub minus_one_bits : ℕ → ℕ → ℕ
minus_one_bits bits fraction = 2 ^ (bits - 1) + one_bits bits fraction

-- ---- 0, 1 and -1 as literals

pub record Units : Type 0 where
  pub scalar : Scalar
  pub as_zero : Literal
  pub as_one : Literal
  pub as_minus_one : Option Literal

-- the row of a scalar type: its literals 0, 1 and -1
abbrev pub units : Scalar → Literal → Literal → Option Literal → Units
units scalar as_zero as_one as_minus_one = record { scalar = scalar; as_zero = as_zero; as_one = as_one; as_minus_one = as_minus_one }

abbrev pub all_units : List Units
all_units = units (signed 2) (literal.I16 (pos 0)) (literal.I16 (pos 1)) (Some (literal.I16 (negsuc 0)))
    ∷ units (signed 4) (literal.I32 (pos 0)) (literal.I32 (pos 1)) (Some (literal.I32 (negsuc 0)))
    ∷ units (signed 8) (literal.I64 (pos 0)) (literal.I64 (pos 1)) (Some (literal.I64 (negsuc 0))) ∷ units (unsigned 2) (literal.U16 0) (literal.U16 1) None
    ∷ units (unsigned 4) (literal.U32 0) (literal.U32 1) None ∷ units (unsigned 8) (literal.U64 0) (literal.U64 1) None
    ∷ units (floating 2) (literal.F16 0) (literal.F16 (one_bits 16 10)) (Some (literal.F16 (minus_one_bits 16 10)))
    ∷ units (floating 4) (literal.F32 0) (literal.F32 (one_bits 32 23)) (Some (literal.F32 (minus_one_bits 32 23)))
    ∷ units (floating 8) (literal.F64 0) (literal.F64 (one_bits 64 52)) (Some (literal.F64 (minus_one_bits 64 52)))
    ∷ units boolean (literal.Bool false) (literal.Bool true) None
    ∷ units abstract_int (literal.AbstractInt (pos 0)) (literal.AbstractInt (pos 1)) (Some (literal.AbstractInt (negsuc 0)))
    ∷ units abstract_float (literal.AbstractFloat 0) (literal.AbstractFloat (one_bits 64 52)) (Some (literal.AbstractFloat (minus_one_bits 64 52))) ∷ []

-- the row of this scalar type in a table, if it has one
abbrev pub units_in : List Units → Scalar → Option Units
units_in [] scalar = None
units_in (row ∷ rows) scalar = if same_scalar row.scalar scalar then Some row else units_in rows scalar

abbrev pub units_of : Scalar → Option Units
units_of scalar = units_in all_units scalar
