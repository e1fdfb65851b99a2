-- The scalars that a pipeline can set, in two parts.
use Rattle.std.proofs.Common.{◌≡◌, ◌<◌, ◌⊎◌, inl, inr, ℕ, zero, suc, Contains, slice_index_or, arith}
use Rattle.ir_kinds.specs.declared.scalars.Scalar.{Scalar}
use Rattle.module_constants.specs.Kinds.{integer_scalars, float_scalars}
use Rattle.spec_expressions.specs.judged.Overrides.{override_scalars}

by_place : (s : Scalar) (k : ℕ) → k < 6 → slice_index_or override_scalars k s ≡ s → Contains integer_scalars s ⊎ Contains float_scalars s
by_place s zero lt e = inl (0, omega arith, e)
by_place s (suc zero) lt e = inl (1, omega arith, e)
by_place s (suc (suc zero)) lt e = inl (2, omega arith, e)
by_place s (suc (suc (suc k))) lt e = inr (k, omega (arith, lt), e)

pub either_kind : (s : Scalar) → Contains override_scalars s → Contains integer_scalars s ⊎ Contains float_scalars s
either_kind s among = by_place s among.0 among.1 among.2

integer_place : (s : Scalar) (k : ℕ) → k < 3 → slice_index_or integer_scalars k s ≡ s → Contains override_scalars s
integer_place s zero lt e = (0, omega arith, e)
integer_place s (suc zero) lt e = (1, omega arith, e)
integer_place s (suc (suc zero)) lt e = (2, omega arith, e)
integer_place s (suc (suc (suc k))) lt e = absurd (omega (arith, lt))

pub of_integers : (s : Scalar) → Contains integer_scalars s → Contains override_scalars s
of_integers s among = integer_place s among.0 among.1 among.2

pub of_floats : (s : Scalar) → Contains float_scalars s → Contains override_scalars s
of_floats s among = let lt = among.1 in (suc (suc (suc among.0)), omega (arith, lt), among.2)
