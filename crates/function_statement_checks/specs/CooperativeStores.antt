-- Errors of stores of cooperative matrices.
use Rattle.std.specs.Prelude.{◌≡◌, ℕ, Option, Some, None}
use Rattle.typing_errors.specs.declared.error.FunctionError.{FunctionError}
use Rattle.typing_errors.specs.declared.error.FunctionError.TheVariants as error
use Rattle.ir_kinds.specs.declared.scalars.Scalar.{Scalar}
use Rattle.ir_types.specs.declared.expressions.CooperativeData.{CooperativeData}
use Rattle.spec_expressions.specs.judged.CooperativeMatrices.{pointed_scalar}
use Rattle.spec_statements.specs.judged.BlockContext.{BlockContext, form_at}
use Rattle.spec_statements.specs.judged.CooperativeStores.{matrix_scalar}
use Rattle.spec_statements.specs.judged.Stores.{IsWritable}

-- there is a scalar, and another one is found, or none
abbrev pub IsOtherScalar : (wanted found : Option Scalar) → Type 0
IsOtherScalar (Some s) found = ¬ (found ≡ Some s)
IsOtherScalar None found = ⊥

abbrev pub IsCooperativeFault : BlockContext → (target : ℕ) → CooperativeData → FunctionError → Type 0
IsCooperativeFault c target place (error.InvalidCooperativeStoreTarget e) = (e ≡ target) × (matrix_scalar (form_at c target) ≡ None)
IsCooperativeFault c target place (error.InvalidCooperativeDataPointer e) =
    (e ≡ place.pointer) × IsOtherScalar (matrix_scalar (form_at c target)) (pointed_scalar c.m.types (form_at c place.pointer))
IsCooperativeFault c target place (error.InvalidStorePointer e) = (e ≡ place.pointer) × ¬ IsWritable (form_at c place.pointer)
IsCooperativeFault c target place _ = ⊥
