-- The rules of the global variables that an entry point uses, one by one.
use Rattle.std.specs.Prelude.{◌≡◌, ℕ, Some, slice_get}
use Rattle.std.specs.Int.{bit_at}
use Rattle.ir_items.specs.judged.GlobalPlain.{PlainGlobal}
use Rattle.ir_items.specs.judged.Plain.{PlainEntry, PlainModule}
use Rattle.ir_kinds.specs.declared.bindings.ResourceBinding.{ResourceBinding}
use Rattle.ir_kinds.specs.declared.spaces.AddressSpace.TheVariants.{Immediate}
use Rattle.spec_interface.specs.judged.Payloads.{binding_at, space_at}
use Rattle.spec_interface.specs.judged.Spaces.{effective_type}
use Rattle.spec_interface.specs.judged.UsedVariables.{IsUsed, UsedVariableOK}
use Rattle.spec_interface.specs.judged.Uses.{allowed_uses}
use Rattle.typing_forms.specs.judged.Resolutions.{inner_at}

-- these uses of the variable are allowed
abbrev pub AllowsUses : PlainModule → PlainEntry → PlainGlobal → (Uses : (k : ℕ) → Type 0) → Type 0
AllowsUses m e v Uses = (k : ℕ) → Uses k → bit_at (allowed_uses e.stage v.space (inner_at m.types (effective_type m.types v.ty))).0 k ≡ 1

-- all uses by the entry point are allowed
abbrev pub EachOK : PlainModule → PlainEntry → (ℕ → ℕ → Type 0) → Type 0
EachOK m e Uses = (g : ℕ) (v : PlainGlobal) → slice_get m.globals g ≡ Some v → IsUsed Uses g → UsedVariableOK m e g v (Uses g)

-- it uses at most one immediate variable
abbrev pub OneImmediate : PlainModule → (ℕ → ℕ → Type 0) → Type 0
OneImmediate m Uses = (g h : ℕ) → IsUsed Uses g → IsUsed Uses h → space_at m g ≡ Some Immediate → space_at m h ≡ Some Immediate → g ≡ h

-- no two of the variables that it uses have the same resource binding
abbrev pub BindingsApart : PlainModule → (ℕ → ℕ → Type 0) → Type 0
BindingsApart m Uses = (g h : ℕ) (b : ResourceBinding) → IsUsed Uses g → IsUsed Uses h → binding_at m g ≡ Some b → binding_at m h ≡ Some b → g ≡ h
