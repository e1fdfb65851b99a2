-- Which types are host-shareable in storage buffers and in uniform buffers, checked at each array and struct inside.
use Rattle.std.specs.Prelude.{◌≡◌, ◌≤◌, ℕ, List, Some, IfSome, max, slice_get}
use Rattle.std.specs.Int.{◌∣◌}
use Rattle.typing_forms.specs.judged.Sizes.{rounded_up}
use Rattle.typing_layout.specs.judged.Layout.{TreeParts, has_elements, has_members, has_no_parts, tree_parts, alignment, greatest_alignment}
use Rattle.typing_layout.specs.judged.Tree.{Tree}
use Rattle.typing_layout.specs.judged.Flags.{HasFlag, HostShareable}
use Rattle.typing_layout.specs.judged.Parts.{TreeMember, member_list, end_of, item_before, Everywhere}

-- each offset is a multiple of the alignment `part` of the member's type
abbrev pub PartsAligned : (part : Tree → ℕ) → List TreeMember → Type 0
PartsAligned part ps = (k : ℕ) (p : TreeMember) → slice_get ps k ≡ Some p → part p.of_type ∣ p.offset

-- ---- storage buffers

-- array strides, member offsets and struct spans are multiples of the alignments
abbrev pub StorageParts : TreeParts → Type 0
StorageParts (has_elements base n stride) = alignment base ∣ stride
StorageParts (has_members ms span) = PartsAligned alignment (member_list ms) × (greatest_alignment ms ∣ span)
StorageParts (has_no_parts s bytes) = Unit {0}

abbrev pub StorageAt : Tree → Type 0
StorageAt t = StorageParts (tree_parts t)

abbrev pub FitsStorageBuffer : Tree → Type 0
FitsStorageBuffer t = HasFlag HostShareable t × Everywhere StorageAt t

-- ---- uniform buffers

-- the alignment of a type within a uniform buffer: at least 16 bytes for arrays and structs
abbrev pub uniform_alignment : Tree → ℕ
uniform_alignment t =
    elim (tree_parts t) [ has_elements base n stride ↦ max 16 (alignment t) | has_members ms span ↦ max 16 (alignment t) | has_no_parts s bytes ↦ alignment t ]

-- the minimum offset of the next member: after a struct its end, rounded up to 16
abbrev pub free_after : TreeMember → Tree → ℕ
free_after p t = elim (tree_parts t) [ has_elements base n stride ↦ 0 | has_members ms span ↦ rounded_up 16 (end_of p) | has_no_parts s bytes ↦ 0 ]

abbrev pub StructsApart : List TreeMember → Type 0
StructsApart ps = (k : ℕ) (p : TreeMember) → slice_get ps k ≡ Some p → IfSome (item_before ps k) (λ a. free_after a a.of_type ≤ p.offset)

-- uniform buffers: alignments in uniform buffers; array strides are multiples of 16, and members after structs keep their distance
abbrev pub UniformParts : TreeParts → Type 0
UniformParts (has_elements base n stride) = (uniform_alignment base ∣ stride) × (16 ∣ stride)
UniformParts (has_members ms span) = PartsAligned uniform_alignment (member_list ms) × (greatest_alignment ms ∣ span) × StructsApart (member_list ms)
UniformParts (has_no_parts s bytes) = Unit {0}

abbrev pub UniformAt : Tree → Type 0
UniformAt t = UniformParts (tree_parts t)

abbrev pub FitsUniformBuffer : Tree → Type 0
FitsUniformBuffer t = HasFlag HostShareable t × Everywhere UniformAt t
