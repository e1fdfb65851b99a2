-- Size and alignment of types.
use Rattle.std.specs.Prelude.{◌≡◌, ◌≤◌, ◌<◌, ◌*◌, ℕ, Option, Some, None, IfSome, max}
use Rattle.std.specs.Int.{IsPowerOfTwo, ◌∣◌}
use Rattle.ir_kinds.specs.declared.scalars.Scalar.{Scalar}
use Rattle.ir_kinds.specs.judged.Scalars.{component_count, cooperative_count}
use Rattle.typing_forms.specs.IrTypes.{PlainInner, ArraySize}
use Rattle.typing_forms.specs.judged.Sizes.{rounded_up, vector_alignment, column_size, counted, type_size}
use Rattle.typing_forms.specs.declared.sizes.TheConstants.{MAX_TYPE_SIZE}
use Rattle.typing_layout.specs.judged.Tree.{Tree, scalar, vector, matrix, cooperative_matrix, atomic, pointer, value_pointer, array, struct, image, sampler, acceleration_structure, ray_query, binding_array, Members, no_members, member}
use Rattle.typing_layout.specs.judged.View.{tree_by}

-- What determines a type's layout: elements, members, or no other type. Then its size is given, and
-- its scalar, if it is one or consists of one.
pub data TreeParts : Type 0 where
  has_elements : (base : Tree) → ArraySize → (stride : ℕ) → TreeParts
  has_members : Members → (span : ℕ) → TreeParts
  has_no_parts : Option Scalar → (bytes : ℕ) → TreeParts

abbrev pub tree_parts : Tree → TreeParts
tree_parts (scalar s) = has_no_parts (Some s) s.width
tree_parts (vector n s) = has_no_parts (Some s) (component_count n * s.width)
tree_parts (matrix columns rows s) = has_no_parts (Some s) (component_count columns * column_size rows s.width)
tree_parts (cooperative_matrix columns rows s role) = has_no_parts (Some s) (cooperative_count columns * cooperative_count rows * s.width)
tree_parts (atomic s) = has_no_parts (Some s) s.width
tree_parts (pointer base space) = has_no_parts None 4
tree_parts (value_pointer n s space) = has_no_parts None 4
tree_parts (array base n stride) = has_elements base n stride
tree_parts (struct ms span) = has_members ms span
tree_parts (image dim arrayed class) = has_no_parts None 0
tree_parts (sampler comparison) = has_no_parts None 0
tree_parts (acceleration_structure vertex_return) = has_no_parts None 0
tree_parts (ray_query vertex_return) = has_no_parts None 0
tree_parts (binding_array base n) = has_no_parts None 0

-- the size of a value in bytes; an array of unknown length counts as one element
abbrev pub size : Tree → ℕ
size t = elim (tree_parts t) [ has_elements base n stride ↦ counted n * stride | has_members ms span ↦ span | has_no_parts s bytes ↦ bytes ]

-- the scalar of a type; elements and members have their own
abbrev pub tree_scalar : Tree → Option Scalar
tree_scalar t = elim (tree_parts t) [ has_elements base n stride ↦ None | has_members ms span ↦ None | has_no_parts s bytes ↦ s ]

abbrev mutual
  -- the alignment of a value's address in bytes
  pub alignment : Tree → ℕ
  alignment (scalar s) = s.width
  alignment (vector n s) = vector_alignment n s.width
  alignment (matrix columns rows s) = vector_alignment rows s.width
  alignment (cooperative_matrix columns rows s role) = s.width
  alignment (atomic s) = s.width
  alignment (pointer base space) = 1
  alignment (value_pointer n s space) = 1
  alignment (array base n stride) = alignment base
  alignment (struct ms span) = greatest_alignment ms
  alignment (image dim arrayed class) = 1
  alignment (sampler comparison) = 1
  alignment (acceleration_structure vertex_return) = 1
  alignment (ray_query vertex_return) = 1
  alignment (binding_array base n) = 1

  -- the greatest alignment of a member, 1 if there is none
  pub greatest_alignment : Members → ℕ
  greatest_alignment no_members = 1
  greatest_alignment (member t binding offset ms) = max (alignment t) (greatest_alignment ms)

-- a type has a layout: the scalar width that determines size and alignment, if any, is a power of two, and
-- no value is too large
pub record LayoutOK (t : Tree) : Type 0 where
  pub width : IfSome (tree_scalar t) (λ s. IsPowerOfTwo s.width)
  pub in_range : size t ≤ MAX_TYPE_SIZE

-- ---- laws

-- the least multiple of a step that is at least a number
pub record IsLeastMultiple (step n multiple : ℕ) : Type 0 where
  pub is_multiple : step ∣ multiple
  pub not_below : n ≤ multiple
  pub least : (m : ℕ) → step ∣ m → n ≤ m → multiple ≤ m

abbrev pub RoundedIsLeast : Type 0
RoundedIsLeast = (step n : ℕ) → 0 < step → IsLeastMultiple step n (rounded_up step n)

-- the size of a tree is that of the type, whose size depends on no other type
abbrev pub SizeOfTree : Type 0
SizeOfTree = (tree : ℕ → Tree) (i : PlainInner) → size (tree_by tree i) ≡ type_size i
