-- The rows of a listing: the same leaf of all elements of an array is one row.
use Rattle.std.specs.Prelude.{◌+◌, ℕ, zero, suc, List, [], ◌∷◌, ◌++◌, map, flat_map}
use Rattle.judgement.specs.judged.Leaves.{Leaf, leaf, leaf_inside, held_in, repeated}
use Rattle.typing_layout.specs.judged.Layout.{size, alignment}
use Rattle.typing_layout.specs.judged.Tree.{Tree, scalar, vector, matrix, cooperative_matrix, atomic, pointer, value_pointer, array, struct, image, sampler, acceleration_structure, ray_query, binding_array, Members, no_members, member}

-- a step to a member by index, or to each of `n` elements with this stride
pub data Step : Type 0 where
  to_part : (number : ℕ) → Step
  to_each : (count stride : ℕ) → Step

-- The steps that lead to the leaves, from the outermost inward, the offset of the first leaf, and the size and the alignment of
-- each.
pub record Row : Type 0 where
  pub steps : List Step
  pub first : ℕ
  pub length : ℕ
  pub alignment : ℕ

abbrev pub row_of : (steps : List Step) → (first length alignment : ℕ) → Row
row_of steps first length alignment = record { steps = steps; first = first; length = length; alignment = alignment }

-- a row of a part, by its step and offset, as a row of the whole
abbrev pub row_inside : Step → (offset : ℕ) → Row → Row
row_inside step offset r = row_of (step ∷ r.steps) (offset + r.first) r.length r.alignment

-- a value that is itself a leaf
abbrev pub row_whole : Tree → List Row
row_whole t = row_of [] 0 (size t) (alignment t) ∷ []

-- the rows of `n` elements, given those of each
abbrev pub elements : (count stride : ℕ) → List Row → List Row
elements zero stride rs = []
elements (suc n) stride rs = map (row_inside (to_each (suc n) stride) 0) rs

abbrev mutual
  -- the rows of a value, with one element for a runtime-sized array
  pub listed : Tree → List Row
  listed (scalar s) = row_whole (scalar s)
  listed (vector n s) = row_whole (vector n s)
  listed (matrix columns rows s) = row_whole (matrix columns rows s)
  listed (cooperative_matrix columns rows s role) = row_whole (cooperative_matrix columns rows s role)
  listed (atomic s) = row_whole (atomic s)
  listed (pointer base space) = []
  listed (value_pointer n s space) = []
  listed (array base n stride) = elements (held_in 1 n) stride (listed base)
  listed (struct ms span) = member_rows 0 ms
  listed (image dim arrayed class) = []
  listed (sampler comparison) = []
  listed (acceleration_structure vertex_return) = []
  listed (ray_query vertex_return) = []
  listed (binding_array base n) = []

  -- those of the members from an index on
  pub member_rows : (part : ℕ) → Members → List Row
  member_rows part no_members = []
  member_rows part (member t binding offset ms) = map (row_inside (to_part part) offset) (listed t) ++ member_rows (suc part) ms

-- ---- the leaves that a row represents

-- the leaves at the ends of steps, one for each element
abbrev pub reached_by : List Step → List Leaf → List Leaf
reached_by [] ls = ls
reached_by (to_part number ∷ steps) ls = map (leaf_inside number 0) (reached_by steps ls)
reached_by (to_each count stride ∷ steps) ls = repeated count 0 stride (reached_by steps ls)

abbrev pub stands_for : Row → List Leaf
stands_for r = reached_by r.steps (leaf [] r.first r.length r.alignment ∷ [])

abbrev pub all_stand_for : List Row → List Leaf
all_stand_for rs = flat_map stands_for rs
