-- Which types are valid under given capabilities, one line per kind.
use Rattle.std.specs.Prelude.{◌≡◌, ◌⊎◌, ℕ, List, Bool, true, false}
use Rattle.ir_flags.specs.Sets.{Has}
use Rattle.ir_flags.specs.declared.settings.Capabilities.{Capabilities}
use Rattle.ir_flags.specs.declared.settings.TheConstants.Capabilities.{COOPERATIVE_MATRIX}
use Rattle.ir_kinds.specs.judged.Scalars.{floating}
use Rattle.ir_kinds.specs.declared.images.ImageClass.TheVariants as class
use Rattle.ir_kinds.specs.declared.scalars.Scalar.{Scalar}
use Rattle.ir_kinds.specs.declared.scalars.ScalarKind.TheVariants as kind
use Rattle.ir_kinds.specs.declared.spaces.AddressSpace.{AddressSpace}
use Rattle.ir_kinds.specs.declared.spaces.AddressSpace.TheVariants as space
use Rattle.typing_forms.specs.IrTypes.{PlainType, ArraySize}
use Rattle.typing_forms.specs.IrTypes.count as count
use Rattle.typing_forms.specs.judged.Resolutions.{inner_at}
use Rattle.typing_layout.specs.judged.Tree.{Tree, scalar, vector, matrix, cooperative_matrix, atomic, pointer, value_pointer, array, struct, image, sampler, acceleration_structure, ray_query, binding_array}
use Rattle.typing_layout.specs.judged.View.{type_tree}
use Rattle.typing_layout.specs.judged.Blends.{BlendsOK}
use Rattle.typing_layout.specs.judged.Flags.{HasFlag, Data, Sized}
use Rattle.typing_layout.specs.judged.Images.{ImageOK, AccelerationStructureOK, RayQueryTypeOK}
use Rattle.typing_layout.specs.judged.Parts.{member_list}
use Rattle.typing_layout.specs.judged.Structs.{StructOK}
use Rattle.typing_layout.specs.judged.Widths.{ScalarOK, AtomicOK}

abbrev pub CooperativeOK : Capabilities → Scalar → Type 0
CooperativeOK capabilities s = Has capabilities.0 COOPERATIVE_MATRIX.0 × ((s ≡ floating 4) ⊎ (s ≡ floating 2))

abbrev pub IsStorageSpace : AddressSpace → Type 0
IsStorageSpace s = elim s [ space.Storage access ↦ Unit {0} | _ ↦ ⊥ ]

-- types of unknown size are in storage buffers
abbrev pub PointerOK : (base : Tree) → AddressSpace → Type 0
PointerOK base space = HasFlag Data base × (HasFlag Sized base ⊎ IsStorageSpace space)

-- if overrides are resolved, no length is an override; runtime-sized arrays are not affected
abbrev pub CountIsResolved : (resolved : Bool) → ArraySize → Type 0
CountIsResolved resolved o = elim o [ count.Constant n ↦ Unit {0} | count.Pending override ↦ resolved ≡ false | count.Dynamic ↦ Unit {0} ]

abbrev pub ArrayOK : (resolved : Bool) → (base : Tree) → ArraySize → Type 0
ArrayOK resolved base n = HasFlag Data base × HasFlag Sized base × CountIsResolved resolved n

-- the elements of binding arrays: no external image
abbrev pub IsBindingArrayBase : Tree → Type 0
IsBindingArrayBase (struct ms span) = Unit {0}
IsBindingArrayBase (image dim arrayed (class.Sampled kind multi)) = Unit {0}
IsBindingArrayBase (image dim arrayed (class.Depth multi)) = Unit {0}
IsBindingArrayBase (image dim arrayed (class.Storage format access)) = Unit {0}
IsBindingArrayBase (sampler comparison) = Unit {0}
IsBindingArrayBase (acceleration_structure vertex_return) = Unit {0}
IsBindingArrayBase _ = ⊥

-- the length is never an override
abbrev pub BindingArrayOK : (base : Tree) → ArraySize → Type 0
BindingArrayOK base n = IsBindingArrayBase base × CountIsResolved true n

-- what is required of a type itself; of the types it refers to only their flags
abbrev pub ShapeOK : Capabilities → (resolved : Bool) → Tree → Type 0
ShapeOK capabilities resolved (scalar s) = ScalarOK capabilities s
ShapeOK capabilities resolved (vector n s) = ScalarOK capabilities s
ShapeOK capabilities resolved (matrix columns rows s) = (s.kind ≡ kind.Float) × ScalarOK capabilities s
ShapeOK capabilities resolved (cooperative_matrix columns rows s role) = CooperativeOK capabilities s
ShapeOK capabilities resolved (atomic s) = AtomicOK capabilities s
ShapeOK capabilities resolved (pointer base space) = PointerOK base space
ShapeOK capabilities resolved (value_pointer n s space) = ScalarOK capabilities s
ShapeOK capabilities resolved (array base n stride) = ArrayOK resolved base n
ShapeOK capabilities resolved (struct ms span) = StructOK (member_list ms) span
ShapeOK capabilities resolved (image dim arrayed class) = ImageOK capabilities dim arrayed class
ShapeOK capabilities resolved (sampler comparison) = Unit {0}
ShapeOK capabilities resolved (acceleration_structure vertex_return) = AccelerationStructureOK capabilities vertex_return
ShapeOK capabilities resolved (ray_query vertex_return) = RayQueryTypeOK capabilities vertex_return
ShapeOK capabilities resolved (binding_array base n) = BindingArrayOK base n

-- the module's type at a handle is valid
pub record TypeOK (capabilities : Capabilities) (resolved : Bool) (types : List PlainType) (handle : ℕ) : Type 0 where
  pub shape : ShapeOK capabilities resolved (type_tree types handle)
  pub blends : BlendsOK capabilities types (inner_at types handle)
