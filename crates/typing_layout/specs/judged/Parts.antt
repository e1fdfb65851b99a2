-- The members of a struct by their indices, and predicates on all types inside a type.
use Rattle.std.specs.Prelude.{◌+◌, ◌⊎◌, ℕ, zero, suc, List, [], ◌∷◌, Option, None, slice_get}
use Rattle.ir_kinds.specs.declared.bindings.Binding.{Binding}
use Rattle.typing_layout.specs.judged.Layout.{size}
use Rattle.typing_layout.specs.judged.Tree.{Tree, scalar, vector, matrix, cooperative_matrix, atomic, pointer, value_pointer, array, struct, image, sampler, acceleration_structure, ray_query, binding_array, Members, no_members, member}

-- A member: its type, its binding, and where it begins.
pub record TreeMember : Type 0 where
  pub of_type : Tree
  pub binding : Option Binding
  pub offset : ℕ

abbrev pub member_list : Members → List TreeMember
member_list no_members = []
member_list (member t binding offset ms) = record { of_type = t; binding = binding; offset = offset } ∷ member_list ms

-- the end of a member
abbrev pub end_of : TreeMember → ℕ
end_of p = p.offset + size p.of_type

-- what precedes an index
abbrev pub item_before : {A : Type 0} → List A → (place : ℕ) → Option A
item_before xs zero = None
item_before xs (suc k) = slice_get xs k

abbrev mutual
  -- P holds of the type, and of every type inside an array or a struct
  pub Everywhere : (Tree → Type 0) → Tree → Type 0
  Everywhere P (scalar s) = P (scalar s)
  Everywhere P (vector n s) = P (vector n s)
  Everywhere P (matrix columns rows s) = P (matrix columns rows s)
  Everywhere P (cooperative_matrix columns rows s role) = P (cooperative_matrix columns rows s role)
  Everywhere P (atomic s) = P (atomic s)
  Everywhere P (pointer base space) = P (pointer base space)
  Everywhere P (value_pointer n s space) = P (value_pointer n s space)
  Everywhere P (array base n stride) = P (array base n stride) × Everywhere P base
  Everywhere P (struct ms span) = P (struct ms span) × EverywhereIn P ms
  Everywhere P (image dim arrayed class) = P (image dim arrayed class)
  Everywhere P (sampler comparison) = P (sampler comparison)
  Everywhere P (acceleration_structure vertex_return) = P (acceleration_structure vertex_return)
  Everywhere P (ray_query vertex_return) = P (ray_query vertex_return)
  Everywhere P (binding_array base n) = P (binding_array base n)

  pub EverywhereIn : (Tree → Type 0) → Members → Type 0
  EverywhereIn P no_members = Unit {0}
  EverywhereIn P (member t binding offset ms) = Everywhere P t × EverywhereIn P ms

abbrev mutual
  -- P holds of the type, or of some type inside an array or a struct
  pub Somewhere : (Tree → Type 0) → Tree → Type 0
  Somewhere P (scalar s) = P (scalar s)
  Somewhere P (vector n s) = P (vector n s)
  Somewhere P (matrix columns rows s) = P (matrix columns rows s)
  Somewhere P (cooperative_matrix columns rows s role) = P (cooperative_matrix columns rows s role)
  Somewhere P (atomic s) = P (atomic s)
  Somewhere P (pointer base space) = P (pointer base space)
  Somewhere P (value_pointer n s space) = P (value_pointer n s space)
  Somewhere P (array base n stride) = P (array base n stride) ⊎ Somewhere P base
  Somewhere P (struct ms span) = P (struct ms span) ⊎ SomewhereIn P ms
  Somewhere P (image dim arrayed class) = P (image dim arrayed class)
  Somewhere P (sampler comparison) = P (sampler comparison)
  Somewhere P (acceleration_structure vertex_return) = P (acceleration_structure vertex_return)
  Somewhere P (ray_query vertex_return) = P (ray_query vertex_return)
  Somewhere P (binding_array base n) = P (binding_array base n)

  pub SomewhereIn : (Tree → Type 0) → Members → Type 0
  SomewhereIn P no_members = ⊥
  SomewhereIn P (member t binding offset ms) = Somewhere P t ⊎ SomewhereIn P ms
