-- Errors of stores.
use Rattle.std.specs.Prelude.{◌≡◌, ◌⊎◌, ℕ, None}
use Rattle.typing_errors.specs.declared.error.FunctionError.{FunctionError}
use Rattle.typing_errors.specs.declared.error.FunctionError.TheVariants as error
use Rattle.ir_types.specs.judged.Plain.{inner_view}
use Rattle.spec_statements.specs.judged.BlockContext.{BlockContext, form_at}
use Rattle.spec_statements.specs.judged.Stores.{BeginsAt, IsVariableAt, IsStorable, FitsAt, IsWritable}
use Rattle.typing_forms.specs.judged.Forms.{form_in}

-- the pointer's origin is neither a variable nor an argument; or its address space is read-only
abbrev pub IsBadPlace : BlockContext → (pointer start : ℕ) → Type 0
IsBadPlace c pointer start =
    (BeginsAt c.f.expressions pointer start × ¬ IsVariableAt c.f.expressions start) ⊎ ((start ≡ pointer) × ¬ IsWritable (form_at c pointer))

abbrev pub IsStoreFault : BlockContext → (pointer value : ℕ) → FunctionError → Type 0
IsStoreFault c pointer value (error.InvalidStorePointer e) = IsBadPlace c pointer e
IsStoreFault c pointer value (error.InvalidStoreTexture actual actual_ty) =
    (actual ≡ value) × (form_in c.m.types None (inner_view actual_ty) ≡ form_at c value) × ¬ IsStorable (form_at c value)
IsStoreFault c pointer value (error.InvalidStoreTypes at what) = (at ≡ pointer) × (what ≡ value) × ¬ FitsAt c.m.types (form_at c pointer) (form_at c value)
IsStoreFault c pointer value _ = ⊥
