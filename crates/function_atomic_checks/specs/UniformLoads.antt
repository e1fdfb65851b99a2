-- Errors of uniform loads of workgroup memory.
use Rattle.std.specs.Prelude.{◌≡◌, ◌⊎◌, ℕ, Option, Some, None, IsSomeAnd, option_and_then, slice_get}
use Rattle.typing_errors.specs.declared.error.FunctionError.{FunctionError}
use Rattle.typing_errors.specs.declared.error.FunctionError.TheVariants as error
use Rattle.ir_kinds.specs.declared.spaces.AddressSpace.TheVariants.{WorkGroup}
use Rattle.spec_statements.specs.judged.BlockContext.{BlockContext, form_at}
use Rattle.spec_statements.specs.judged.Stores.{pointer_space}
use Rattle.spec_statements.specs.judged.UniformLoads.{loaded_type, LeadsTo}

-- the type that the result at a handle declares
abbrev pub loaded_at : BlockContext → (result : ℕ) → Option ℕ
loaded_at c result = option_and_then loaded_type (slice_get c.f.expressions result)

-- not a pointer into workgroup memory, or one to another type than the result's; or the result is not a
-- `WorkGroupUniformLoadResult`
abbrev pub IsUniformLoadFault : BlockContext → (pointer result : ℕ) → FunctionError → Type 0
IsUniformLoadFault c pointer result (error.WorkgroupUniformLoadInvalidPointer e) = (e ≡ pointer)
    × ((¬ (pointer_space (form_at c pointer) ≡ Some WorkGroup)) ⊎ IsSomeAnd (loaded_at c result) (λ type. ¬ LeadsTo c.m.types (form_at c pointer) type))
IsUniformLoadFault c pointer result (error.WorkgroupUniformLoadExpressionMismatch e) = (e ≡ result) × (loaded_at c result ≡ None)
IsUniformLoadFault c pointer result _ = ⊥
