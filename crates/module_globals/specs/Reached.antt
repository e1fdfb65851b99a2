-- The slots that a value overlaps.
use Rattle.std.specs.Prelude.{◌<◌, ◌+◌, ◌*◌, ◌⊎◌, ℕ}
use Rattle.std.specs.List.{Contains}
use Rattle.module_globals.specs.Slots.{Meets}
use Rattle.judgement.specs.judged.Leaves.{Leaf, leaves}
use Rattle.typing_layout.specs.judged.Layout.{size}
use Rattle.typing_layout.specs.judged.Tree.{Tree, scalar, vector, matrix, cooperative_matrix, atomic, pointer, value_pointer, array, struct, image, sampler, acceleration_structure, ray_query, binding_array, Members, no_members, member}
use Rattle.typing_forms.specs.judged.Sizes.{counted}

-- a leaf of the value at an offset overlaps the slot
pub record IsMet (slot : ℕ) (t : Tree) (offset : ℕ) : Type 0 where
  pub leaf : Leaf
  pub among : Contains (leaves 1 t) leaf
  pub meets : Meets (offset + leaf.first) leaf.length slot

-- ---- the same for each part

abbrev mutual
  pub IsReached : (slot : ℕ) → Tree → (offset : ℕ) → Type 0
  IsReached slot (scalar s) offset = Meets offset (size (scalar s)) slot
  IsReached slot (vector n s) offset = Meets offset (size (vector n s)) slot
  IsReached slot (matrix columns rows s) offset = Meets offset (size (matrix columns rows s)) slot
  IsReached slot (cooperative_matrix columns rows s role) offset = Meets offset (size (cooperative_matrix columns rows s role)) slot
  IsReached slot (atomic s) offset = Meets offset (size (atomic s)) slot
  IsReached slot (pointer base space) offset = ⊥
  IsReached slot (value_pointer n s space) offset = ⊥
  IsReached slot (array base n stride) offset = (place : ℕ) × (place < counted n) × IsReached slot base (offset + place * stride)
  IsReached slot (struct ms span) offset = IsReachedIn slot ms offset
  IsReached slot (image dim arrayed class) offset = ⊥
  IsReached slot (sampler comparison) offset = ⊥
  IsReached slot (acceleration_structure vertex_return) offset = ⊥
  IsReached slot (ray_query vertex_return) offset = ⊥
  IsReached slot (binding_array base n) offset = ⊥

  pub IsReachedIn : (slot : ℕ) → Members → (offset : ℕ) → Type 0
  IsReachedIn slot no_members offset = ⊥
  IsReachedIn slot (member t binding begin ms) offset = IsReached slot t (offset + begin) ⊎ IsReachedIn slot ms offset

-- one of `n` elements overlaps the slot
abbrev pub IsReachedAmong : (slot : ℕ) → (element : Tree) → (stride offset count : ℕ) → Type 0
IsReachedAmong slot element stride offset count = (place : ℕ) × (place < count) × IsReached slot element (offset + place * stride)
