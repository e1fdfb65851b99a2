-- The errors of global variables.
use Rattle.std.specs.Prelude.{◌≡◌, ◌≢◌, ◌↔◌, ◌⊎◌, ℕ, List, IsTrue, Option, Some, None, IsSome, Result, Err, slice_get}
use Rattle.module_globals.specs.declared.error.GlobalVariableError.{GlobalVariableError}
use Rattle.module_globals.specs.declared.error.GlobalVariableError.TheVariants as error
use Rattle.ir_flags.specs.Sets.{Has}
use Rattle.ir_flags.specs.declared.memory.MemoryDecorations.{MemoryDecorations}
use Rattle.ir_flags.specs.declared.memory.TheConstants.MemoryDecorations.{COHERENT, VOLATILE}
use Rattle.ir_flags.specs.declared.memory.TheConstants.StorageAccess.{STORE}
use Rattle.ir_flags.specs.declared.settings.Capabilities.{Capabilities}
use Rattle.ir_flags.specs.declared.settings.TheConstants.Capabilities.{MEMORY_DECORATION_COHERENT, MEMORY_DECORATION_VOLATILE}
use Rattle.ir_flags.specs.declared.settings.ValidationFlags.{ValidationFlags}
use Rattle.ir_flags.specs.declared.settings.TheConstants.ValidationFlags.{BINDINGS, STRUCT_LAYOUTS}
use Rattle.ir_items.specs.judged.GlobalPlain.{PlainGlobal}
use Rattle.ir_items.specs.judged.Plain.{PlainModule}
use Rattle.ir_kinds.specs.declared.spaces.AddressSpace.{AddressSpace}
use Rattle.ir_kinds.specs.declared.spaces.AddressSpace.TheVariants.{Function, Private, WorkGroup, Uniform, Storage, Handle, Immediate, TaskPayload, RayPayload, IncomingRayPayload}
use Rattle.ir_types.specs.judged.Plain.{PlainInner, PlainType}
use Rattle.spec_expressions.specs.judged.Overrides.{IsKnownByOverrides}
use Rattle.spec_expressions.specs.judged.Typing.{HasGlobalType}
use Rattle.spec_interface.specs.judged.Handles.{is_handle}
use Rattle.spec_interface.specs.judged.Spaces.{array_base, effective_type, array_capability, space_capability, is_storage, space_row}
use Rattle.spec_interface.specs.found.Variables.{HasAll}
use Rattle.typing_layout.specs.judged.Layout.{size}
use Rattle.typing_layout.specs.judged.Tree.{Tree}
use Rattle.typing_layout.specs.judged.View.{type_tree}
use Rattle.typing_layout.specs.found.BufferFaults.{BreaksStorage, BreaksUniform, IsBroken, IsUnfit}
use Rattle.typing_layout.specs.found.Infos.{AreFlags}
use Rattle.typing_layout.specs.declared.type_error.Disalignment.{Disalignment}
use Rattle.typing_forms.specs.judged.Forms.{form_of_type}
use Rattle.typing_forms.specs.declared.form.Form.{Form}
use Rattle.typing_forms.specs.judged.Resolutions.{inner_at}

-- the type is a binding array of this element type
abbrev pub IsArrayOf : List PlainType → (type base : ℕ) → Type 0
IsArrayOf types type base = array_base (inner_at types type) ≡ Some base

-- the `TypeInner` of the type that the rules apply to, and its tree
abbrev pub counted_inner : PlainModule → PlainGlobal → Option PlainInner
counted_inner m v = inner_at m.types (effective_type m.types v.ty)

abbrev pub counted_tree : PlainModule → PlainGlobal → Tree
counted_tree m v = type_tree m.types (effective_type m.types v.ty)

-- the variable requires this capability
abbrev pub Needs : PlainModule → PlainGlobal → Capabilities → Type 0
Needs m v c =
    ((base : ℕ) × IsArrayOf m.types v.ty base × (array_capability v.space (inner_at m.types base) ≡ Some c))
    ⊎ (space_capability v.space (counted_inner m v) ≡ Some c)

-- it is a binding array in an address space where none is allowed
abbrev pub IsUnboundArray : PlainModule → PlainGlobal → Type 0
IsUnboundArray m v = (base : ℕ) × IsArrayOf m.types v.ty base × (v.space ≢ Handle) × (array_capability v.space (inner_at m.types base) ≡ None)

-- the error of a binding array of this element type in an address space
abbrev pub IsArrayRefusal : AddressSpace → (base : ℕ) → Option PlainInner → GlobalVariableError → Type 0
IsArrayRefusal space base i (error.InvalidUsage s) = (s ≡ space) × (space ≢ Handle)
IsArrayRefusal space base i (error.InvalidType s) = (s ≡ space) × (space ≡ Handle) × ¬ IsTrue (is_handle i)
IsArrayRefusal space base i (error.InvalidBindingArray b) = (b ≡ base) × (space ≡ Handle)
IsArrayRefusal space base i _ = ⊥

-- the type flags that an address space requires, as bits
abbrev pub required_bits : AddressSpace → ℕ
required_bits Function = 0
required_bits Private = 160
required_bits WorkGroup = 3
required_bits Uniform = 55
required_bits (Storage access) = 49
required_bits Handle = 0
required_bits Immediate = 23
required_bits TaskPayload = 3
required_bits RayPayload = 3
required_bits IncomingRayPayload = 3

-- ---- layouts, memory decorations and initializers

-- the layout is invalid, and the address space requires one
abbrev pub IsLayoutFault : ValidationFlags → AddressSpace → Result ℕ (ℕ × Disalignment) → GlobalVariableError → Type 0
IsLayoutFault flags space layout (error.Alignment s type d) = (s ≡ space) × Has flags.0 STRUCT_LAYOUTS.0 × (layout ≡ Err (type, d))
IsLayoutFault flags space layout _ = ⊥

abbrev pub IsDecorationFault : Capabilities → AddressSpace → MemoryDecorations → GlobalVariableError → Type 0
IsDecorationFault capabilities space decorations error.InvalidMemoryDecorationsAddressSpace = (decorations.0 ≢ 0) × ¬ IsTrue (is_storage space)
IsDecorationFault capabilities space decorations error.CoherentNotSupported = Has decorations.0 COHERENT.0 × ¬ Has capabilities.0 MEMORY_DECORATION_COHERENT.0
IsDecorationFault capabilities space decorations error.VolatileNotSupported = Has decorations.0 VOLATILE.0 × ¬ Has capabilities.0 MEMORY_DECORATION_VOLATILE.0
IsDecorationFault capabilities space decorations _ = ⊥

-- under a typing of global expressions
abbrev pub IsBeginFault : (HasForm : (expression : ℕ) → Form → Type 0) → PlainModule → AddressSpace → (type init : ℕ) → GlobalVariableError → Type 0
IsBeginFault HasForm m space type init error.InitializerExprType = ¬ IsKnownByOverrides m init
IsBeginFault HasForm m space type init error.InitializerType = ¬ HasForm init (form_of_type m.types type)
IsBeginFault HasForm m space type init (error.InitializerNotAllowed s) = (s ≡ space) × (space ≢ Private)
IsBeginFault HasForm m space type init _ = ⊥

-- ---- of a variable

-- under a typing of global expressions
abbrev pub IsWrongBy : (HasForm : (expression : ℕ) → Form → Type 0) → ValidationFlags → Capabilities → PlainModule → PlainGlobal → GlobalVariableError → Type 0
IsWrongBy HasForm flags capabilities m v (error.InvalidUsage s) = (s ≡ v.space) × ((v.space ≡ Function) ⊎ IsUnboundArray m v)
IsWrongBy HasForm flags capabilities m v (error.InvalidType s) = (s ≡ v.space) × (v.space ≡ Handle) × ¬ IsTrue (is_handle (counted_inner m v))
IsWrongBy HasForm flags capabilities m v (error.InvalidBindingArray base) = (v.space ≡ Handle) × IsArrayOf m.types v.ty base × (array_capability Handle (inner_at m.types base) ≡ None)
IsWrongBy HasForm flags capabilities m v (error.MissingTypeFlags asked seen) = (asked.0 ≡ required_bits v.space) × AreFlags seen (counted_tree m v) × ¬ HasAll (space_row v.space).flags (counted_tree m v)
IsWrongBy HasForm flags capabilities m v (error.UnsupportedCapability c) = Needs m v c × ¬ Has capabilities.0 c.0
IsWrongBy HasForm flags capabilities m v error.InvalidBinding = Has flags.0 BINDINGS.0 × ¬ (IsTrue (space_row v.space).bound ↔ IsSome v.binding)
IsWrongBy HasForm flags capabilities m v (error.Alignment s type d) =
    (s ≡ v.space) × Has flags.0 STRUCT_LAYOUTS.0
    × ((IsTrue (is_storage v.space) × IsBroken BreaksStorage m.types (counted_tree m v) (type, d)) ⊎ ((v.space ≡ Uniform) × IsBroken BreaksUniform m.types (counted_tree m v) (type, d)))
IsWrongBy HasForm flags capabilities m v error.InitializerExprType = (e : ℕ) × (v.init ≡ Some e) × IsBeginFault HasForm m v.space v.ty e error.InitializerExprType
IsWrongBy HasForm flags capabilities m v error.InitializerType = (e : ℕ) × (v.init ≡ Some e) × IsBeginFault HasForm m v.space v.ty e error.InitializerType
IsWrongBy HasForm flags capabilities m v (error.InitializerNotAllowed s) = (e : ℕ) × (v.init ≡ Some e) × IsBeginFault HasForm m v.space v.ty e (error.InitializerNotAllowed s)
IsWrongBy HasForm flags capabilities m v error.StorageAddressSpaceWriteOnlyNotSupported = v.space ≡ Storage STORE
IsWrongBy HasForm flags capabilities m v (error.InvalidImmediateType e) = (v.space ≡ Immediate) × IsUnfit (counted_tree m v) e
IsWrongBy HasForm flags capabilities m v error.ZeroSizedTaskPayload = (v.space ≡ TaskPayload) × (size (counted_tree m v) ≡ 0)
IsWrongBy HasForm flags capabilities m v error.InvalidMemoryDecorationsAddressSpace = IsDecorationFault capabilities v.space v.decorations error.InvalidMemoryDecorationsAddressSpace
IsWrongBy HasForm flags capabilities m v error.CoherentNotSupported = IsDecorationFault capabilities v.space v.decorations error.CoherentNotSupported
IsWrongBy HasForm flags capabilities m v error.VolatileNotSupported = IsDecorationFault capabilities v.space v.decorations error.VolatileNotSupported

-- under the inferred types of global expressions
abbrev pub IsWrong : ValidationFlags → Capabilities → PlainModule → PlainGlobal → GlobalVariableError → Type 0
IsWrong flags capabilities m = IsWrongBy (HasGlobalType m) flags capabilities m

-- The global variable at a handle has the error.
pub record IsGlobalFault (flags : ValidationFlags) (capabilities : Capabilities) (m : PlainModule) (handle : ℕ) (e : GlobalVariableError) : Type 0 where
  pub variable : PlainGlobal
  pub at : slice_get m.globals handle ≡ Some variable
  pub wrong : IsWrong flags capabilities m variable e
