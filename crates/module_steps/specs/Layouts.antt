-- Layouts of arrays and structs, from those of their parts.
use Rattle.std.specs.Prelude.{◌≡◌, ◌≢◌, ◌≤◌, ℕ, List, Option, Some, None, IfSome}
use Rattle.std.specs.Int.{◌∣◌}
use Rattle.ir_kinds.specs.declared.scalars.Scalar.{Scalar}
use Rattle.ir_types.specs.judged.Plain.{PlainMember}
use Rattle.ir_types.specs.declared.types.ArraySize.{ArraySize}
use Rattle.typing_layout.specs.judged.Buffers.{FitsStorageBuffer, FitsUniformBuffer, uniform_alignment, free_after}
use Rattle.typing_layout.specs.judged.Immediates.{FitsImmediates}
use Rattle.typing_layout.specs.judged.Parts.{TreeMember, item_before}
use Rattle.typing_layout.specs.judged.Layout.{alignment}
use Rattle.typing_layout.specs.judged.Tree.{Tree, array, struct}
use Rattle.typing_layout.specs.judged.View.{members_by}
use Rattle.module_type_checks.specs.Known.{tree_in, AreFacts}
use Rattle.module_type_checks.specs.declared.context.TypeContext.{TypeContext}
use Rattle.module_type_checks.specs.declared.facts.Facts.{Facts}
use Rattle.typing_layout.specs.declared.type_error.ImmediateError.{ImmediateError}
use Rattle.typing_layout.specs.declared.type_error.ImmediateError.TheVariants as immediate

-- the type at a handle is a struct of these members
pub record IsStructOf (c : TypeContext) (members : List PlainMember) (span handle : ℕ) : Type 0 where
  pub is : tree_in c handle ≡ struct (members_by (tree_in c) members) span

pub record IsStructAt (c : TypeContext) (members : List PlainMember) (handle : ℕ) : Type 0 where
  pub span : ℕ
  pub is : tree_in c handle ≡ struct (members_by (tree_in c) members) span

-- the type at a handle is an array of elements with these facts
pub record IsArrayAt (c : TypeContext) (f : Facts) (stride handle : ℕ) : Type 0 where
  pub base : Tree
  pub count : ArraySize
  pub is : tree_in c handle ≡ array base count stride
  pub facts : AreFacts c base f

-- a member's offset is valid for its type
abbrev pub StoragePart : (place : ℕ) → TreeMember → Type 0
StoragePart place p = FitsStorageBuffer p.of_type × (alignment p.of_type ∣ p.offset)

abbrev pub UniformPart : List TreeMember → (place : ℕ) → TreeMember → Type 0
UniformPart ps place p = FitsUniformBuffer p.of_type × (uniform_alignment p.of_type ∣ p.offset) × IfSome (item_before ps place) (λ a. free_after a a.of_type ≤ p.offset)

abbrev pub FitsAt : (place : ℕ) → TreeMember → Type 0
FitsAt place p = FitsImmediates p.of_type

-- the minimum offset of the next member
abbrev pub free_before : Option TreeMember → ℕ
free_before None = 0
free_before (Some a) = free_after a a.of_type

-- an earlier type has a valid uniform layout, with this alignment
pub record IsUniformAlignment (c : TypeContext) (ty a : ℕ) : Type 0 where
  pub laid : FitsUniformBuffer (tree_in c ty)
  pub aligned : a ≡ uniform_alignment (tree_in c ty)

abbrev pub IsScalarFit : Option Scalar → Type 0
IsScalarFit o = IfSome o (λ s. s.width ≢ 2)

abbrev pub IsScalarUnfit : Option Scalar → ImmediateError → Type 0
IsScalarUnfit o (immediate.InvalidScalar s) = (o ≡ Some s) × (s.width ≡ 2)
