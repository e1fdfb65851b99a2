-- Which uses of global variables by an entry point are valid.
use Rattle.std.specs.Prelude.{◌≡◌, ◌≤◌, ℕ, Some, IsTrue, slice_get}
use Rattle.std.specs.Int.{bit_at}
use Rattle.ir_flags.specs.Sets.{Has}
use Rattle.ir_flags.specs.declared.settings.ValidationFlags.{ValidationFlags}
use Rattle.ir_flags.specs.declared.settings.TheConstants.ValidationFlags.{BINDINGS}
use Rattle.ir_items.specs.judged.GlobalPlain.{PlainGlobal}
use Rattle.ir_items.specs.judged.Plain.{PlainEntry, PlainModule}
use Rattle.ir_kinds.specs.declared.bindings.ResourceBinding.{ResourceBinding}
use Rattle.ir_kinds.specs.declared.spaces.AddressSpace.TheVariants.{Immediate, TaskPayload}
use Rattle.spec_interface.specs.judged.Payloads.{space_at, binding_at}
use Rattle.spec_interface.specs.judged.Uses.{allowed_uses, is_reached}
use Rattle.spec_interface.specs.judged.Spaces.{effective_type}
use Rattle.typing_layout.specs.judged.Layout.{size}
use Rattle.typing_layout.specs.judged.View.{type_tree}
use Rattle.typing_forms.specs.judged.Resolutions.{inner_at}

-- the variable has some use, given all uses: these bits
abbrev pub IsUsed : (ℕ → ℕ → Type 0) → (g : ℕ) → Type 0
IsUsed Uses g = (k : ℕ) × Uses g k

-- it is the entry point's task payload, and its size is at least four bytes
pub record OwnPayloadOK (m : PlainModule) (e : PlainEntry) (g : ℕ) (v : PlainGlobal) : Type 0 where
  pub own : e.payload ≡ Some g
  pub bytes : 4 ≤ size (type_tree m.types v.ty)

-- the entry point may use the variable so, given its inner type; for a binding array, its elements' inner type
pub record UsedVariableOK (m : PlainModule) (e : PlainEntry) (g : ℕ) (v : PlainGlobal) (Uses : (k : ℕ) → Type 0) : Type 0 where
  pub payload : v.space ≡ TaskPayload → OwnPayloadOK m e g v
  pub reached : IsTrue (is_reached e.stage v.space)
  pub allowed : (k : ℕ) → Uses k → bit_at (allowed_uses e.stage v.space (inner_at m.types (effective_type m.types v.ty))).0 k ≡ 1

-- All uses by the entry point are allowed; it uses at most one immediate variable, and no two with the same resource binding.
pub record VariablesOK (flags : ValidationFlags) (m : PlainModule) (e : PlainEntry) (Uses : ℕ → ℕ → Type 0) : Type 0 where
  pub each : (g : ℕ) (v : PlainGlobal) → slice_get m.globals g ≡ Some v → IsUsed Uses g → UsedVariableOK m e g v (Uses g)
  pub immediate : (g h : ℕ) → IsUsed Uses g → IsUsed Uses h → space_at m g ≡ Some Immediate → space_at m h ≡ Some Immediate → g ≡ h
  pub bound : Has flags.0 BINDINGS.0
      → (g h : ℕ) (b : ResourceBinding) → IsUsed Uses g → IsUsed Uses h → binding_at m g ≡ Some b → binding_at m h ≡ Some b → g ≡ h
