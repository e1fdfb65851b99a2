-- The parts of a type: its scalar, its components, its pointer base.
use Rattle.std.specs.Prelude.{ℕ, List, Bool, true, false, Option, Some, None, option_map, slice_get, length}
use Rattle.ir_kinds.specs.judged.Scalars.{component_count}
use Rattle.ir_kinds.specs.declared.images.ImageDimension.{ImageDimension}
use Rattle.ir_kinds.specs.declared.scalars.Scalar.{Scalar}
use Rattle.ir_kinds.specs.declared.scalars.ScalarKind.{ScalarKind}
use Rattle.ir_kinds.specs.declared.scalars.VectorSize.{VectorSize}
use Rattle.ir_kinds.specs.declared.scalars.VectorSize.TheVariants.{Bi, Tri}
use Rattle.ir_kinds.specs.declared.spaces.AddressSpace.{AddressSpace}
use Rattle.ir_kinds.specs.declared.images.ImageDimension.TheVariants as dimension
use Rattle.ir_kinds.specs.declared.scalars.ScalarKind.TheVariants as kind
use Rattle.ir_types.specs.judged.Plain.{PlainInner, struct, plain, PlainType}
use Rattle.ir_types.specs.declared.types.ArraySize.TheVariants as count
use Rattle.ir_types.specs.declared.types.TypeInner.TheVariants as inner
use Rattle.typing_forms.specs.judged.Resolutions.{inner_at, PlainResolution, by_handle, by_value}

-- ---- scalars

-- the scalar of a scalar, a vector, a matrix or a cooperative matrix
abbrev pub scalar_of : PlainInner → Option Scalar
scalar_of (plain (inner.Scalar s)) = Some s
scalar_of (plain (inner.Vector n s)) = Some s
scalar_of (plain (inner.Matrix columns rows s)) = Some s
scalar_of (plain (inner.CooperativeMatrix columns rows s role)) = Some s
scalar_of _ = None

abbrev pub scalar_kind_of : PlainInner → Option ScalarKind
scalar_kind_of i = option_map (λ s. s.kind) (scalar_of i)

abbrev pub scalar_width_of : PlainInner → Option ℕ
scalar_width_of i = option_map (λ s. s.width) (scalar_of i)

-- the size and the scalar of a vector, or a scalar without a size
abbrev pub size_and_scalar : PlainInner → Option (Option VectorSize × Scalar)
size_and_scalar (plain (inner.Scalar s)) = Some (None, s)
size_and_scalar (plain (inner.Vector n s)) = Some (Some n, s)
size_and_scalar _ = None

-- ---- components

-- the number of components to compose a value from
abbrev pub components_of : PlainInner → Option ℕ
components_of (struct members span) = Some (length members)
components_of (plain (inner.Vector n s)) = Some (component_count n)
components_of (plain (inner.Matrix columns rows s)) = Some (component_count columns)
components_of (plain (inner.Array base (count.Constant n) stride)) = Some n
components_of _ = None

-- the type of a component: all have one type, except those of a struct
abbrev pub component_at : PlainInner → ℕ → Option PlainResolution
component_at (struct members span) index = option_map (λ m. by_handle m.ty) (slice_get members index)
component_at (plain (inner.Vector n s)) index = Some (by_value (plain (inner.Scalar s)))
component_at (plain (inner.Matrix columns rows s)) index = Some (by_value (plain (inner.Vector rows s)))
component_at (plain (inner.Array base (count.Constant n) stride)) index = Some (by_handle base)
component_at _ index = None

-- ---- pointers

-- the address space of a pointer
abbrev pub space_of : PlainInner → Option AddressSpace
space_of (plain (inner.Pointer base space)) = Some space
space_of (plain (inner.ValuePointer n s space)) = Some space
space_of _ = None

-- the base type of a pointer
abbrev pub pointee_of : PlainInner → Option PlainResolution
pointee_of (plain (inner.Pointer base space)) = Some (by_handle base)
pointee_of (plain (inner.ValuePointer None s space)) = Some (by_value (plain (inner.Scalar s)))
pointee_of (plain (inner.ValuePointer (Some n) s space)) = Some (by_value (plain (inner.Vector n s)))
pointee_of _ = None

abbrev pub is_atomic : Option PlainInner → Bool
is_atomic (Some (plain (inner.Atomic s))) = true
is_atomic _ = false

-- whether it is a pointer to an atomic
abbrev pub points_to_atomic : List PlainType → PlainInner → Bool
points_to_atomic types (plain (inner.Pointer base space)) = is_atomic (inner_at types base)
points_to_atomic types _ = false

-- ---- images

-- the dimension of an image with this many coordinates of this kind: integers
abbrev pub dimension_of : ScalarKind → ImageDimension → Option ImageDimension
dimension_of kind.Sint dim = Some dim
dimension_of kind.Uint dim = Some dim
dimension_of _ dim = None

-- the dimension of the storage images that take this type as a coordinate
abbrev pub storage_dimension : PlainInner → Option ImageDimension
storage_dimension (plain (inner.Scalar s)) = dimension_of s.kind dimension.D1
storage_dimension (plain (inner.Vector Bi s)) = dimension_of s.kind dimension.D2
storage_dimension (plain (inner.Vector Tri s)) = dimension_of s.kind dimension.D3
storage_dimension _ = None
