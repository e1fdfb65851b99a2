-- A global variable with an error is invalid.
use Rattle.std.proofs.Common.{◌≡◌, ◌∙◌, inl, inr, ℕ, Option, Some, None, IfSome, IsTrue, refl, sym, subst}
use Rattle.module_globals.proofs.Broken.{storage_refuted, uniform_refuted, unfit_refuted}
use Rattle.module_globals.specs.Faults.{IsArrayOf, IsWrong, counted_inner, counted_tree}
use Rattle.module_globals.specs.Laws.{FaultRefutes}
use Rattle.module_globals.specs.declared.error.GlobalVariableError.{GlobalVariableError}
use Rattle.module_globals.specs.declared.error.GlobalVariableError.TheVariants as error
use Rattle.ir_flags.specs.Sets.{Has}
use Rattle.ir_flags.specs.declared.settings.Capabilities.{Capabilities}
use Rattle.ir_flags.specs.declared.settings.ValidationFlags.{ValidationFlags}
use Rattle.ir_flags.specs.declared.settings.TheConstants.ValidationFlags.{STRUCT_LAYOUTS}
use Rattle.ir_items.specs.judged.GlobalPlain.{PlainGlobal}
use Rattle.ir_items.specs.judged.Plain.{PlainModule}
use Rattle.ir_kinds.specs.declared.spaces.AddressSpace.{AddressSpace}
use Rattle.ir_kinds.specs.declared.spaces.AddressSpace.TheVariants.{Storage}
use Rattle.ir_types.specs.judged.Plain.{PlainInner}
use Rattle.typing_layout.specs.judged.Buffers.{FitsStorageBuffer}
use Rattle.spec_interface.specs.found.Variables.{BeginsOK, VariableOK}
use Rattle.spec_interface.specs.judged.Spaces.{array_capability, space_capability, HasArrayCapability, LiesIn, is_storage}
use Rattle.typing_layout.specs.judged.Tree.{Tree}
use Rattle.typing_forms.specs.judged.Resolutions.{inner_at}

some_none : {A : Type 0} (o : Option A) (x : A) → o ≡ Some x → o ≡ None → ⊥
some_none o x some none = cc

stored : (flags : ValidationFlags) (s : AddressSpace) (i : Option PlainInner) (t : Tree) → IsTrue (is_storage s) → LiesIn flags s i t → Has flags.0 STRUCT_LAYOUTS.0 → FitsStorageBuffer t
stored flags (Storage access) i t is lies asked = lies.0 asked
stored flags _ i t is lies asked = cc

module _ (flags : ValidationFlags) (capabilities : Capabilities) (m : PlainModule) (v : PlainGlobal) (ok : VariableOK flags capabilities m v) where
  lies_in : (s : AddressSpace) → v.space ≡ s → LiesIn flags s (counted_inner m v) (counted_tree m v)
  lies_in s is = subst (λ s. LiesIn flags s (counted_inner m v) (counted_tree m v)) is ok.lies

  array_ok : (base : ℕ) → IsArrayOf m.types v.ty base → HasArrayCapability capabilities v.space (inner_at m.types base)
  array_ok base is = subst (λ o. IfSome o (λ (b : ℕ). HasArrayCapability capabilities v.space (inner_at m.types b))) is ok.arrays

  no_array : (base : ℕ) → IsArrayOf m.types v.ty base → array_capability v.space (inner_at m.types base) ≡ None → ⊥
  no_array base is none = let a = array_ok base is in some_none (array_capability v.space (inner_at m.types base)) a.capability a.needed none

  array_has : (base : ℕ) (c : Capabilities) → IsArrayOf m.types v.ty base → array_capability v.space (inner_at m.types base) ≡ Some c → Has capabilities.0 c.0
  array_has base c is needed =
      let a = array_ok base is in
      let same : a.capability ≡ c = (let e = sym a.needed ∙ needed in cc) in
      subst (λ (x : Capabilities). Has capabilities.0 x.0) same a.has

  needed_has : (c : Capabilities) → space_capability v.space (counted_inner m v) ≡ Some c → Has capabilities.0 c.0
  needed_has c is = subst (λ o. IfSome o (λ (x : Capabilities). Has capabilities.0 x.0)) is ok.needed

  begins_ok : (e : ℕ) → v.init ≡ Some e → BeginsOK m v.space v.ty e
  begins_ok e is = subst (λ o. IfSome o (BeginsOK m v.space v.ty)) is ok.begins

  wrong_refutes : (e : GlobalVariableError) → IsWrong flags capabilities m v e → ⊥
  wrong_refutes (error.InvalidUsage s) w = elim w.1 [
    | inl function ↦ lies_in _ function
    | inr unbound ↦ no_array unbound.0 unbound.1 unbound.3
  ]
  wrong_refutes (error.InvalidType s) w = w.2 (lies_in _ w.1)
  wrong_refutes (error.InvalidBindingArray base) w =
      no_array base w.1 (subst (λ s. array_capability s (inner_at m.types base) ≡ None) (sym w.0) w.2)
  wrong_refutes (error.MissingTypeFlags asked seen) w = w.2 ok.used
  wrong_refutes (error.UnsupportedCapability c) w = elim w.0 [
    | inl array ↦ w.1 (array_has array.0 c array.1 array.2)
    | inr own ↦ w.1 (needed_has c own)
  ]
  wrong_refutes error.InvalidBinding w = w.1 (ok.bound w.0)
  wrong_refutes (error.Alignment s type d) w = elim w.2 [
    | inl storage ↦ storage_refuted m.types (counted_tree m v) type d storage.1 (stored flags v.space (counted_inner m v) (counted_tree m v) storage.0 ok.lies w.1)
    | inr uniform ↦ uniform_refuted m.types (counted_tree m v) type d uniform.1 (lies_in _ uniform.0 w.1)
  ]
  wrong_refutes error.InitializerExprType w = w.2 (begins_ok w.0 w.1).known
  wrong_refutes error.InitializerType w = w.2 (begins_ok w.0 w.1).typed
  wrong_refutes (error.InitializerNotAllowed s) w = (w.2).1 (begins_ok w.0 w.1).own
  wrong_refutes error.StorageAddressSpaceWriteOnlyNotSupported w = (lies_in _ w).1 refl
  wrong_refutes (error.InvalidImmediateType e) w = unfit_refuted (counted_tree m v) e w.1 (lies_in _ w.0)
  wrong_refutes error.ZeroSizedTaskPayload w = lies_in _ w.0 w.1
  wrong_refutes error.InvalidMemoryDecorationsAddressSpace w = w.1 (ok.decorated.storage w.0)
  wrong_refutes error.CoherentNotSupported w = w.1 (ok.decorated.coherent w.0)
  wrong_refutes error.VolatileNotSupported w = w.1 (ok.decorated.volatile w.0)

pub fault_refutes : FaultRefutes
fault_refutes flags capabilities m handle e fault ok =
    let same : fault.variable ≡ ok.variable = (let is = sym fault.at ∙ ok.at in cc) in
    wrong_refutes flags capabilities m ok.variable ok.ok e (subst (λ v. IsWrong flags capabilities m v e) same fault.wrong)
