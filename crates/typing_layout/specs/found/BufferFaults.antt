-- Why a type is not host-shareable.
use Rattle.std.specs.Prelude.{◌≡◌, ◌<◌, ◌⊎◌, ℕ, List, Some, slice_get}
use Rattle.std.specs.Int.{◌∣◌}
use Rattle.typing_forms.specs.IrTypes.{PlainType, ArraySize}
use Rattle.typing_layout.specs.judged.Buffers.{uniform_alignment, free_after}
use Rattle.typing_layout.specs.judged.Flags.{HasFlag, HostShareable}
use Rattle.typing_layout.specs.judged.Parts.{TreeMember, member_list, item_before, Somewhere}
use Rattle.typing_layout.specs.judged.Layout.{alignment, tree_scalar}
use Rattle.typing_layout.specs.judged.Tree.{Tree, Members, array, struct}
use Rattle.typing_layout.specs.judged.View.{type_tree}
use Rattle.typing_layout.specs.declared.type_error.Disalignment.{Disalignment}
use Rattle.typing_layout.specs.declared.type_error.Disalignment.TheVariants as fault
use Rattle.typing_layout.specs.declared.type_error.ImmediateError.{ImmediateError}
use Rattle.typing_layout.specs.declared.type_error.ImmediateError.TheVariants as immediate

-- an array whose stride is no multiple of an alignment that its elements require
pub record IsBadStride (asks : Tree → ℕ → Type 0) (stride a : ℕ) (t : Tree) : Type 0 where
  pub base : Tree
  pub count : ArraySize
  pub is : t ≡ array base count stride
  pub asked : asks base a
  pub broken : ¬ (a ∣ stride)

-- a struct whose span is no multiple of its alignment
pub record IsBadSpan (span a : ℕ) (t : Tree) : Type 0 where
  pub members : Members
  pub is : t ≡ struct members span
  pub asked : a ≡ alignment t
  pub broken : ¬ (a ∣ span)

-- a struct with a member whose offset is no multiple of what `part` requires of its type
pub record IsBadOffset (part : Tree → ℕ) (index offset a : ℕ) (t : Tree) : Type 0 where
  pub members : Members
  pub span : ℕ
  pub is : t ≡ struct members span
  pub p : TreeMember
  pub at : slice_get (member_list members) index ≡ Some p
  pub begins : offset ≡ p.offset
  pub asked : a ≡ part p.of_type
  pub broken : ¬ (a ∣ offset)

-- a struct with a member too close to the end of the struct before it
pub record IsNearAfter (index offset expected : ℕ) (t : Tree) : Type 0 where
  pub members : Members
  pub span : ℕ
  pub is : t ≡ struct members span
  pub p : TreeMember
  pub at : slice_get (member_list members) index ≡ Some p
  pub q : TreeMember
  pub behind : item_before (member_list members) index ≡ Some q
  pub begins : offset ≡ p.offset
  pub asked : expected ≡ free_after q q.of_type
  pub near : offset < expected

abbrev pub BreaksStorage : Disalignment → Tree → Type 0
BreaksStorage (fault.ArrayStride stride a) t = IsBadStride (λ base n. n ≡ alignment base) stride a t
BreaksStorage (fault.StructSpan span a) t = IsBadSpan span a t
BreaksStorage (fault.MemberOffset index offset a) t = IsBadOffset alignment index offset a t
BreaksStorage (fault.MemberOffsetAfterStruct index offset expected) t = ⊥
BreaksStorage fault.NonHostShareable t = ¬ HasFlag HostShareable t

abbrev pub BreaksUniform : Disalignment → Tree → Type 0
BreaksUniform (fault.ArrayStride stride a) t = IsBadStride (λ base n. (n ≡ uniform_alignment base) ⊎ (n ≡ 16)) stride a t
BreaksUniform (fault.StructSpan span a) t = IsBadSpan span a t
BreaksUniform (fault.MemberOffset index offset a) t = IsBadOffset uniform_alignment index offset a t
BreaksUniform (fault.MemberOffsetAfterStruct index offset expected) t = IsNearAfter index offset expected t
BreaksUniform fault.NonHostShareable t = ¬ HasFlag HostShareable t

-- the fault is at the type itself or at a type inside it, the one at the handle
abbrev pub IsBroken : (Disalignment → Tree → Type 0) → List PlainType → Tree → (ℕ × Disalignment) → Type 0
IsBroken breaks types t e = Somewhere (λ inside. (inside ≡ type_tree types e.0) × breaks e.1 inside) t

-- the type contains the scalar, whose width is two
abbrev pub IsUnfit : Tree → ImmediateError → Type 0
IsUnfit t (immediate.InvalidScalar s) = Somewhere (λ inside. tree_scalar inside ≡ Some s) t × (s.width ≡ 2)
