-- The broken rules of `Swizzle`.
use Rattle.std.specs.Prelude.{◌≡◌, ◌<◌, ◌≤◌, ℕ, List, Some, IsSomeAnd, slice_get}
use Rattle.ir_kinds.specs.judged.Scalars.{component_count, component_place}
use Rattle.ir_kinds.specs.declared.scalars.SwizzleComponent.{SwizzleComponent}
use Rattle.ir_kinds.specs.declared.scalars.VectorSize.{VectorSize}
use Rattle.typing_forms.specs.declared.form.Form.{Form}
use Rattle.spec_statements.specs.judged.Shapes.{shaped_of, IsMadeOf, IsVectorShape, AnyKind}
use Rattle.spec_statements.specs.judged.Swizzles.{row_size}
use Rattle.check_causes.specs.declared.swizzles.SwizzleCause.{SwizzleCause}
use Rattle.check_causes.specs.declared.swizzles.SwizzleCause.TheVariants.{NoVector, Letter}

-- the component is used, and is out of bounds
abbrev pub BrokenLetter : VectorSize → (pattern : List SwizzleComponent) → (of : VectorSize) → SwizzleComponent → Type 0
BrokenLetter size pattern of letter = (place : ℕ) × (place < component_count size) × (slice_get pattern place ≡ Some letter) × (component_count of ≤ component_place letter)

abbrev pub BrokenSwizzle : VectorSize → (pattern : List SwizzleComponent) → (of : Form) → SwizzleCause → Type 0
BrokenSwizzle size pattern of (NoVector given) = (given ≡ of) × ¬ IsMadeOf IsVectorShape AnyKind of
BrokenSwizzle size pattern of (Letter letter count) = IsSomeAnd (shaped_of of) (λ v. row_size v.shape ≡ Some count) × BrokenLetter size pattern count letter
