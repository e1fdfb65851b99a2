-- Sizes of types in bytes.
use Rattle.typing_forms.specs.declared.sizes.TheConstants.{MAX_TYPE_SIZE}
use Rattle.std.specs.Prelude.{ℕ, ◌+◌, ◌-◌, ◌*◌, ◌/◌, Option, Some, None, if◌then◌else◌, nat_le}
use Rattle.ir_kinds.specs.judged.Scalars.{component_count, cooperative_count}
use Rattle.ir_kinds.specs.declared.scalars.VectorSize.{VectorSize}
use Rattle.ir_kinds.specs.declared.scalars.VectorSize.TheVariants.{Bi, Tri, Quad}
use Rattle.ir_types.specs.judged.Plain.{PlainInner, struct, plain}
use Rattle.ir_types.specs.declared.types.ArraySize.{ArraySize}
use Rattle.ir_types.specs.declared.types.ArraySize.TheVariants as count
use Rattle.ir_types.specs.declared.types.TypeInner.TheVariants as inner

-- the least multiple of a step that is at least the number
abbrev pub rounded_up : (step : ℕ) → ℕ → ℕ
rounded_up step n = (n + (step - 1)) / step * step

-- the alignment of a vector of this size with scalars of this width
abbrev pub vector_alignment : VectorSize → (width : ℕ) → ℕ
vector_alignment n width = elim n [ Bi ↦ 2 * width | Tri ↦ 4 * width | Quad ↦ 4 * width ]

-- a column of a matrix, rounded up to its alignment
abbrev pub column_size : VectorSize → (width : ℕ) → ℕ
column_size rows width = rounded_up (vector_alignment rows width) (component_count rows * width)

-- the number of elements for a size: one if it isn't known
abbrev pub counted : ArraySize → ℕ
counted o = elim o [ count.Constant n ↦ n | count.Pending override ↦ 1 | count.Dynamic ↦ 1 ]

abbrev pub type_size : PlainInner → ℕ
type_size (struct members span) = span
type_size (plain (inner.Scalar s)) = s.width
type_size (plain (inner.Vector n s)) = component_count n * s.width
type_size (plain (inner.Matrix columns rows s)) = component_count columns * column_size rows s.width
type_size (plain (inner.CooperativeMatrix columns rows s role)) = cooperative_count columns * cooperative_count rows * s.width
type_size (plain (inner.Atomic s)) = s.width
type_size (plain (inner.Pointer base space)) = 4
type_size (plain (inner.ValuePointer n s space)) = 4
type_size (plain (inner.Array base size stride)) = counted size * stride
type_size (plain _) = 0

-- the greatest size that a type may have
abbrev pub greatest_size : ℕ
greatest_size = MAX_TYPE_SIZE

-- the size, if it is not over the limit
abbrev pub allowed : ℕ → Option ℕ
allowed size = if nat_le size greatest_size then Some size else None
