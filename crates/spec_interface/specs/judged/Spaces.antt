-- The rules of each address space for the type of a global variable.
use Rattle.std.specs.Prelude.{◌≡◌, ◌≢◌, ℕ, List, [], ◌∷◌, Bool, true, false, IsTrue, Option, Some, None, unwrap_or}
use Rattle.ir_flags.specs.Sets.{Has}
use Rattle.ir_flags.specs.declared.memory.TheConstants.StorageAccess.{STORE}
use Rattle.ir_flags.specs.declared.settings.Capabilities.{Capabilities}
use Rattle.ir_flags.specs.declared.settings.TheConstants.Capabilities.{BUFFER_BINDING_ARRAY, STORAGE_BUFFER_BINDING_ARRAY, IMMEDIATES, MESH_SHADER, RAY_TRACING_PIPELINE}
use Rattle.ir_flags.specs.declared.settings.ValidationFlags.{ValidationFlags}
use Rattle.ir_flags.specs.declared.settings.TheConstants.ValidationFlags.{STRUCT_LAYOUTS}
use Rattle.ir_kinds.specs.declared.spaces.AddressSpace.{AddressSpace}
use Rattle.ir_kinds.specs.declared.spaces.AddressSpace.TheVariants.{Function, Private, WorkGroup, Uniform, Storage, Handle, Immediate, TaskPayload, RayPayload, IncomingRayPayload}
use Rattle.ir_types.specs.judged.Plain.{PlainInner, plain, PlainType}
use Rattle.ir_types.specs.declared.types.TypeInner.TheVariants as inner
use Rattle.typing_layout.specs.judged.Buffers.{FitsStorageBuffer, FitsUniformBuffer}
use Rattle.typing_layout.specs.judged.Flags.{TypeFlag, Data, Sized, Copy, HostShareable, CreationResolved, Constructible}
use Rattle.typing_layout.specs.judged.Immediates.{FitsImmediates}
use Rattle.spec_interface.specs.judged.Handles.{is_handle, handle_capability, handle_array_capability}
use Rattle.typing_layout.specs.judged.Layout.{size}
use Rattle.spec_interface.specs.judged.Stages.{StageRow}
use Rattle.typing_layout.specs.judged.Tree.{Tree}
use Rattle.typing_forms.specs.judged.Resolutions.{inner_at}

-- ---- binding arrays

-- the element type of a binding array, if it is one
abbrev pub array_base : Option PlainInner → Option ℕ
array_base o = elim o [ Some (plain (inner.BindingArray base n)) ↦ Some base | _ ↦ None ]

-- the effective type: the element type of a binding array, because it stands for resources that are bound one by one, and
-- otherwise the type itself
abbrev pub effective_type : List PlainType → (type : ℕ) → ℕ
effective_type types type = unwrap_or (array_base (inner_at types type)) type

-- the capability required for a binding array of this inner type in a space; other spaces have no binding arrays
abbrev pub array_capability : AddressSpace → (base : Option PlainInner) → Option Capabilities
array_capability (Storage access) base = Some STORAGE_BUFFER_BINDING_ARRAY
array_capability Uniform base = Some BUFFER_BINDING_ARRAY
array_capability Handle base = handle_array_capability base
array_capability _ base = None

-- binding arrays of this are allowed
pub record HasArrayCapability (capabilities : Capabilities) (space : AddressSpace) (base : Option PlainInner) : Type 0 where
  pub capability : Capabilities
  pub needed : array_capability space base ≡ Some capability
  pub has : Has capabilities.0 capability.0

-- ---- the table

-- Of a space: the required type flags, the capability required whatever the type, if any, whether a
-- resource binding is required, whether it is a buffer space, and whether a stage may use variables there at all.
pub record SpaceRow : Type 0 where
  pub flags : List TypeFlag
  pub needs : Option Capabilities
  pub bound : Bool
  pub buffer : Bool
  pub reach : StageRow → Bool

abbrev pub space_row : AddressSpace → SpaceRow
space_row Function = record { flags = []; needs = None; bound = false; buffer = false; reach = λ s. true }
space_row (Storage access) = record { flags = Data ∷ HostShareable ∷ CreationResolved ∷ []; needs = None; bound = true; buffer = true; reach = λ s. true }
space_row Uniform = record { flags = Data ∷ Copy ∷ Sized ∷ HostShareable ∷ CreationResolved ∷ []; needs = None; bound = true; buffer = true; reach = λ s. true }
space_row Handle = record { flags = []; needs = None; bound = true; buffer = false; reach = λ s. true }
space_row Private = record { flags = Constructible ∷ CreationResolved ∷ []; needs = None; bound = false; buffer = false; reach = λ s. true }
space_row WorkGroup = record { flags = Data ∷ Sized ∷ []; needs = None; bound = false; buffer = false; reach = λ s. true }
space_row TaskPayload = record { flags = Data ∷ Sized ∷ []; needs = Some MESH_SHADER; bound = false; buffer = false; reach = λ s. true }
space_row Immediate = record { flags = Data ∷ Copy ∷ HostShareable ∷ Sized ∷ []; needs = Some IMMEDIATES; bound = false; buffer = false; reach = λ s. true }
space_row RayPayload = record { flags = Data ∷ Sized ∷ []; needs = Some RAY_TRACING_PIPELINE; bound = false; buffer = false; reach = λ s. s.traces }
space_row IncomingRayPayload = record { flags = Data ∷ Sized ∷ []; needs = Some RAY_TRACING_PIPELINE; bound = false; buffer = false; reach = λ s. s.incoming }

-- ---- further rules of a space

-- the capability required for a variable of this inner type in a space, if any
abbrev pub space_capability : AddressSpace → Option PlainInner → Option Capabilities
space_capability s i = elim s [ Handle ↦ handle_capability i | space ↦ (space_row space).needs ]

-- The rules of the effective type's inner type and tree. No global variable is in Function. Buffers have the
-- required layout, if struct layouts are checked; none is write-only. The size of a task payload is not zero, because HLSL has no
-- empty payloads.
abbrev pub LiesIn : ValidationFlags → AddressSpace → Option PlainInner → Tree → Type 0
LiesIn flags Function i t = ⊥
LiesIn flags (Storage access) i t = (Has flags.0 STRUCT_LAYOUTS.0 → FitsStorageBuffer t) × (access ≢ STORE)
LiesIn flags Uniform i t = Has flags.0 STRUCT_LAYOUTS.0 → FitsUniformBuffer t
LiesIn flags Handle i t = IsTrue (is_handle i)
LiesIn flags Private i t = Unit {0}
LiesIn flags WorkGroup i t = Unit {0}
LiesIn flags TaskPayload i t = size t ≢ 0
LiesIn flags Immediate i t = FitsImmediates t
LiesIn flags RayPayload i t = Unit {0}
LiesIn flags IncomingRayPayload i t = Unit {0}

-- it is a storage buffer
abbrev pub is_storage : AddressSpace → Bool
is_storage s = elim s [ Storage access ↦ true | _ ↦ false ]
