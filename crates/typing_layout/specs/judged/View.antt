-- The types of a module as trees.
use Rattle.std.specs.Prelude.{◌≡◌, ◌<◌, ℕ, zero, suc, List, [], ◌∷◌, ◌++◌, Option, Some, None, length}
use Rattle.typing_forms.specs.IrTypes.{PlainMember, PlainInner, struct as written_struct, plain, PlainType}
use Rattle.typing_forms.specs.IrTypes.inner as inner
use Rattle.typing_forms.specs.judged.Order.{TypesGoBack}
use Rattle.typing_forms.specs.judged.Resolutions.{inner_at}
use Rattle.typing_layout.specs.judged.Tree.{Tree, scalar, vector, matrix, cooperative_matrix, atomic, pointer, value_pointer, array, struct, image, sampler, acceleration_structure, ray_query, binding_array, Members, no_members, member, no_type}

-- ---- a type, given the trees of the types that it refers to by `tree`

abbrev pub members_by : (tree : ℕ → Tree) → List PlainMember → Members
members_by tree [] = no_members
members_by tree (m ∷ ms) = member (tree m.ty) m.binding m.offset (members_by tree ms)

-- a struct is never `plain`, so that case is left out
abbrev pub tree_by : (tree : ℕ → Tree) → PlainInner → Tree
tree_by tree (written_struct members span) = struct (members_by tree members) span
tree_by tree (plain (inner.Scalar s)) = scalar s
tree_by tree (plain (inner.Vector n s)) = vector n s
tree_by tree (plain (inner.Matrix columns rows s)) = matrix columns rows s
tree_by tree (plain (inner.CooperativeMatrix columns rows s role)) = cooperative_matrix columns rows s role
tree_by tree (plain (inner.Atomic s)) = atomic s
tree_by tree (plain (inner.Pointer base space)) = pointer (tree base) space
tree_by tree (plain (inner.ValuePointer n s space)) = value_pointer n s space
tree_by tree (plain (inner.Array base size stride)) = array (tree base) size stride
tree_by tree (plain (inner.Struct members span)) = no_type
tree_by tree (plain (inner.Image dim arrayed class)) = image dim arrayed class
tree_by tree (plain (inner.Sampler comparison)) = sampler comparison
tree_by tree (plain (inner.AccelerationStructure vertex_return)) = acceleration_structure vertex_return
tree_by tree (plain (inner.RayQuery vertex_return)) = ray_query vertex_return
tree_by tree (plain (inner.BindingArray base size)) = binding_array (tree base) size

abbrev pub tree_found : (tree : ℕ → Tree) → Option PlainInner → Tree
tree_found tree o = elim o [ Some i ↦ tree_by tree i | None ↦ no_type ]

-- ---- a type of a module

-- the tree of the type at a handle, following at most this many handles
unfoldable pub tree_along : List PlainType → (handles : ℕ) → (handle : ℕ) → Tree
tree_along types zero handle = no_type
tree_along types (suc n) handle = tree_found (tree_along types n) (inner_at types handle)

-- the tree of the type at a handle: types refer to earlier types, so no chain of handles is longer than the handle's index
unfoldable pub type_tree : List PlainType → (handle : ℕ) → Tree
type_tree types handle = tree_along types (suc handle) handle

-- ---- laws

-- the tree of a type consists of the trees of the types that it refers to
abbrev pub TreeByTrees : Type 0
TreeByTrees = (types : List PlainType) → TypesGoBack types → (handle : ℕ) (i : PlainInner) → inner_at types handle ≡ Some i
    → type_tree types handle ≡ tree_by (type_tree types) i

-- appending types keeps the trees of the others
abbrev pub TreesStay : Type 0
TreesStay = (types more : List PlainType) → TypesGoBack types → (handle : ℕ) → handle < length types → type_tree (types ++ more) handle ≡ type_tree types handle
