-- When the leaves of a type are well placed: aligned, disjoint and in bounds.
use Rattle.std.specs.Prelude.{◌+◌, ◌≤◌, ◌⊎◌, ℕ}
use Rattle.std.specs.Int.{◌∣◌}
use Rattle.std.specs.List.{All, AllPairs}
use Rattle.judgement.specs.judged.Leaves.{Leaf, leaves}
use Rattle.typing_layout.specs.judged.Buffers.{FitsStorageBuffer, FitsUniformBuffer}
use Rattle.typing_layout.specs.judged.Flags.{HasFlag, Sized}
use Rattle.typing_layout.specs.judged.Layout.{size, alignment, LayoutOK, tree_parts, has_elements, has_members, has_no_parts}
use Rattle.typing_layout.specs.judged.Parts.{member_list, Everywhere}
use Rattle.typing_layout.specs.judged.Structs.{StructOK}
use Rattle.typing_layout.specs.judged.Tree.{Tree}

-- the stride of an array is at least its element size, so that no two elements overlap
abbrev pub StrideOK : Tree → Type 0
StrideOK t = elim (tree_parts t) [ has_elements base n stride ↦ size base ≤ stride | has_members ms span ↦ Unit {0} | has_no_parts s bytes ↦ Unit {0} ]

-- two leaves do not overlap
abbrev pub LeavesApart : Leaf → Leaf → Type 0
LeavesApart a b = (a.first + a.length ≤ b.first) ⊎ (b.first + b.length ≤ a.first)

-- Whatever the length of a runtime-sized array, each leaf's offset is a multiple of its alignment, which divides that of the
-- type, so that a leaf is aligned in memory if the value's address is a multiple of the type's alignment; and no two leaves
-- overlap. If a runtime-sized array has one element, all leaves are within the size of the type.
pub record LeavesOK (t : Tree) : Type 0 where
  pub aligned : (held : ℕ) → All (λ l. l.alignment ∣ l.first) (leaves held t)
  pub fitting : (held : ℕ) → All (λ l. l.alignment ∣ alignment t) (leaves held t)
  pub apart : (held : ℕ) → AllPairs LeavesApart (leaves held t)
  pub within : All (λ l. l.first + l.length ≤ size t) (leaves 1 t)

-- the requirements of the checks of arrays and structs that leaves depend on
abbrev pub ShapesOK : Tree → Type 0
ShapesOK t =
    elim (tree_parts t)
    [ has_elements base n stride ↦ HasFlag Sized base | has_members ms span ↦ StructOK (member_list ms) span | has_no_parts s bytes ↦ Unit {0} ]

-- A buffer type: each type inside it has a layout and is valid, no stride is less than its element size, and its storage or
-- uniform layout is valid.
pub record IsBuffer (t : Tree) : Type 0 where
  pub laid : Everywhere LayoutOK t
  pub shaped : Everywhere ShapesOK t
  pub strides : Everywhere StrideOK t
  pub serves : FitsStorageBuffer t ⊎ FitsUniformBuffer t
