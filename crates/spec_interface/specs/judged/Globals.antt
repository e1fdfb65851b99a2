-- Which global variables are valid.
use Rattle.std.specs.Prelude.{◌≡◌, ◌≢◌, ◌↔◌, ◌<◌, ℕ, IsTrue, Some, IfSome, IsSome, length, slice_get}
use Rattle.ir_flags.specs.Sets.{Has}
use Rattle.ir_flags.specs.declared.memory.MemoryDecorations.{MemoryDecorations}
use Rattle.ir_flags.specs.declared.memory.TheConstants.MemoryDecorations.{COHERENT, VOLATILE}
use Rattle.ir_flags.specs.declared.settings.Capabilities.{Capabilities}
use Rattle.ir_flags.specs.declared.settings.TheConstants.Capabilities.{MEMORY_DECORATION_COHERENT, MEMORY_DECORATION_VOLATILE}
use Rattle.ir_flags.specs.declared.settings.ValidationFlags.{ValidationFlags}
use Rattle.ir_flags.specs.declared.settings.TheConstants.ValidationFlags.{BINDINGS}
use Rattle.ir_items.specs.judged.GlobalPlain.{PlainGlobal}
use Rattle.ir_items.specs.judged.Plain.{PlainModule}
use Rattle.ir_kinds.specs.declared.spaces.AddressSpace.{AddressSpace}
use Rattle.ir_kinds.specs.declared.spaces.AddressSpace.TheVariants.{Private}
use Rattle.spec_statements.specs.SpecExpressions.{IsKnownByOverrides, HasGlobalType}
use Rattle.spec_interface.specs.judged.Spaces.{array_base, effective_type, HasArrayCapability, space_row, space_capability, LiesIn, is_storage}
use Rattle.typing_layout.specs.judged.View.{type_tree}
use Rattle.typing_forms.specs.judged.Forms.{form_of_type}
use Rattle.typing_forms.specs.declared.form.Form.{Form}
use Rattle.typing_forms.specs.judged.Resolutions.{inner_at}
use Rattle.typing_layout.specs.judged.Flags.{TypeFlag, HasFlag, among}

-- memory decorations are for storage buffers only, each with its capability
pub record DecorationsOK (capabilities : Capabilities) (space : AddressSpace) (decorations : MemoryDecorations) : Type 0 where
  pub storage : decorations.0 ≢ 0 → IsTrue (is_storage space)
  pub coherent : Has decorations.0 COHERENT.0 → Has capabilities.0 MEMORY_DECORATION_COHERENT.0
  pub volatile : Has decorations.0 VOLATILE.0 → Has capabilities.0 MEMORY_DECORATION_VOLATILE.0

-- A variable's initializer is a const or override expression of the variable's type, by a typing of global expressions;
-- only variables in the private space have one.
pub record BeginsBy (HasForm : (expression : ℕ) → Form → Type 0) (m : PlainModule) (space : AddressSpace) (type init : ℕ) : Type 0 where
  pub own : space ≡ Private
  pub known : IsKnownByOverrides m init
  pub typed : HasForm init (form_of_type m.types type)

-- The variable is valid, by a typing of the module's global expressions.
pub record VariableBy (HasForm : (expression : ℕ) → Form → Type 0) (flags : ValidationFlags) (capabilities : Capabilities) (m : PlainModule) (v : PlainGlobal) : Type 0 where
  pub arrays : IfSome (array_base (inner_at m.types v.ty)) (λ base. HasArrayCapability capabilities v.space (inner_at m.types base))
  pub needed : IfSome (space_capability v.space (inner_at m.types (effective_type m.types v.ty))) (λ c. Has capabilities.0 c.0)
  pub lies : LiesIn flags v.space (inner_at m.types (effective_type m.types v.ty)) (type_tree m.types (effective_type m.types v.ty))
  pub used : (f : TypeFlag) → IsTrue (among (space_row v.space).flags f) → HasFlag f (type_tree m.types (effective_type m.types v.ty))
  pub bound : Has flags.0 BINDINGS.0 → IsTrue (space_row v.space).bound ↔ IsSome v.binding
  pub decorated : DecorationsOK capabilities v.space v.decorations
  pub begins : IfSome v.init (BeginsBy HasForm m v.space v.ty)

-- the global variable at a handle is valid, by the types of the module's global expressions
pub record GlobalOK (flags : ValidationFlags) (capabilities : Capabilities) (m : PlainModule) (handle : ℕ) : Type 0 where
  pub variable : PlainGlobal
  pub at : slice_get m.globals handle ≡ Some variable
  pub ok : VariableBy (HasGlobalType m) flags capabilities m variable

-- all global variables of a module are valid
abbrev pub GlobalsOK : ValidationFlags → Capabilities → PlainModule → Type 0
GlobalsOK flags capabilities m = (handle : ℕ) → handle < length m.globals → GlobalOK flags capabilities m handle
