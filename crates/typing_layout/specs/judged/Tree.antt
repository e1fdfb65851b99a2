-- Types as trees: each handle of a type is replaced by that type's tree. A tree has no
-- names, so types that differ only in names have the same tree.
use Rattle.std.specs.Prelude.{ℕ, Bool, false, Option}
use Rattle.ir_kinds.specs.declared.bindings.Binding.{Binding}
use Rattle.ir_kinds.specs.declared.images.ImageClass.{ImageClass}
use Rattle.ir_kinds.specs.declared.images.ImageDimension.{ImageDimension}
use Rattle.ir_kinds.specs.declared.scalars.CooperativeRole.{CooperativeRole}
use Rattle.ir_kinds.specs.declared.scalars.CooperativeSize.{CooperativeSize}
use Rattle.ir_kinds.specs.declared.scalars.Scalar.{Scalar}
use Rattle.ir_kinds.specs.declared.scalars.VectorSize.{VectorSize}
use Rattle.ir_kinds.specs.declared.spaces.AddressSpace.{AddressSpace}
use Rattle.typing_forms.specs.IrTypes.{ArraySize}

mutual
  -- a type, of one of the fourteen kinds
  pub data Tree : Type 0 where
    scalar : Scalar → Tree
    vector : (size : VectorSize) → Scalar → Tree
    matrix : (columns rows : VectorSize) → Scalar → Tree
    cooperative_matrix : (columns rows : CooperativeSize) → Scalar → CooperativeRole → Tree
    atomic : Scalar → Tree
    pointer : (base : Tree) → AddressSpace → Tree
    value_pointer : (size : Option VectorSize) → Scalar → AddressSpace → Tree
    array : (base : Tree) → (size : ArraySize) → (stride : ℕ) → Tree
    struct : Members → (span : ℕ) → Tree
    image : ImageDimension → (arrayed : Bool) → ImageClass → Tree
    sampler : (comparison : Bool) → Tree
    acceleration_structure : (vertex_return : Bool) → Tree
    ray_query : (vertex_return : Bool) → Tree
    binding_array : (base : Tree) → (size : ArraySize) → Tree

  -- the members of a struct in order, each with its binding and its offset
  pub data Members : Type 0 where
    no_members : Members
    member : (of_type : Tree) → Option Binding → (offset : ℕ) → Members → Members

-- the tree of an invalid handle; a module with valid handles has none, so its definition doesn't matter
abbrev pub no_type : Tree
no_type = sampler false
