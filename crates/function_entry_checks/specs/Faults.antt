-- Errors of entry points, by part.
use Rattle.std.specs.Prelude.{◌≡◌, ◌≢◌, ◌<◌, ◌↔◌, ℕ, List, All, Bool, true, false, Some, None, IsSome, is_some, slice_get, []}
use Rattle.std.specs.Int.{bit_at}
use Rattle.spec_expressions.specs.declared.global_use.GlobalUse.{GlobalUse}
use Rattle.function_entry_checks.specs.declared.error.EntryPointError.{EntryPointError}
use Rattle.function_entry_checks.specs.declared.error.EntryPointError.TheVariants as error
use Rattle.ir_types.specs.found.Faults.{error_of, spans_of}
use Rattle.ir_types.specs.declared.refusal.Refusal.{Refusal}
use Rattle.ir_types.specs.declared.refusal.Refusal.TheVariants as refusal
use Rattle.ir_flags.specs.Sets.{Has}
use Rattle.ir_flags.specs.declared.settings.Capabilities.{Capabilities}
use Rattle.ir_flags.specs.declared.settings.TheConstants.Capabilities.{EARLY_DEPTH_TEST}
use Rattle.ir_flags.specs.declared.settings.ValidationFlags.{ValidationFlags}
use Rattle.ir_flags.specs.declared.settings.TheConstants.ValidationFlags.{BINDINGS}
use Rattle.ir_items.specs.judged.GlobalPlain.{PlainGlobal}
use Rattle.ir_items.specs.judged.Plain.{PlainEntry, PlainModule}
use Rattle.ir_kinds.specs.declared.bindings.ResourceBinding.{ResourceBinding}
use Rattle.ir_kinds.specs.declared.spaces.AddressSpace.{AddressSpace}
use Rattle.ir_kinds.specs.declared.spaces.AddressSpace.TheVariants.{Immediate, TaskPayload, RayPayload, IncomingRayPayload}
use Rattle.ir_kinds.specs.declared.stages.ShaderStage.{ShaderStage}
use Rattle.ir_kinds.specs.declared.stages.ShaderStage.TheVariants.{Fragment, Mesh, Task}
use Rattle.spec_interface.specs.judged.Payloads.{space_at, binding_at, has_payload}
use Rattle.spec_interface.specs.judged.Stages.{stage_row, SizeOK}
use Rattle.spec_interface.specs.judged.UsedVariables.{IsUsed}
use Rattle.spec_interface.specs.found.UsedVariables.{AllowsUses}
use Rattle.typing_layout.specs.judged.Layout.{size}
use Rattle.typing_layout.specs.judged.View.{type_tree}
use Rattle.function_varying_checks.specs.declared.error.VaryingError.{VaryingError}
use Rattle.function_varying_checks.specs.declared.error.VaryingError.TheVariants as varying

-- ---- the stage

abbrev pub IsCapabilityFault : Capabilities → ShaderStage → EntryPointError → Type 0
IsCapabilityFault capabilities stage (error.UnsupportedCapability c) = ((stage_row stage).needs ≡ Some c) × ¬ Has capabilities.0 c.0
IsCapabilityFault capabilities stage _ = ⊥

abbrev pub IsEarlyVaryingFault : Capabilities → VaryingError → Type 0
IsEarlyVaryingFault capabilities (varying.UnsupportedCapability c) = (c ≡ EARLY_DEPTH_TEST) × ¬ Has capabilities.0 EARLY_DEPTH_TEST.0
IsEarlyVaryingFault capabilities _ = ⊥

abbrev pub IsEarlyFault : Capabilities → ShaderStage → EntryPointError → Type 0
IsEarlyFault capabilities stage (error.Result e) = IsEarlyVaryingFault capabilities e
IsEarlyFault capabilities stage error.UnexpectedEarlyDepthTest = stage ≢ Fragment
IsEarlyFault capabilities stage _ = ⊥

abbrev pub IsSizeFault : (workgroups : Bool) → List ℕ → EntryPointError → Type 0
IsSizeFault workgroups sizes error.UnexpectedWorkgroupSize = (workgroups ≡ false) × ¬ All (SizeOK workgroups) sizes
IsSizeFault workgroups sizes error.OutOfRangeWorkgroupSize = (workgroups ≡ true) × ¬ All (SizeOK workgroups) sizes
IsSizeFault workgroups sizes _ = ⊥

abbrev pub IsMeshInfoFault : ShaderStage → (is_said : Bool) → EntryPointError → Type 0
IsMeshInfoFault stage is_said error.ExpectedMeshShaderAttributes = (stage ≡ Mesh) × (is_said ≡ false)
IsMeshInfoFault stage is_said error.UnexpectedMeshShaderAttributes = (stage ≢ Mesh) × (is_said ≡ true)
IsMeshInfoFault stage is_said _ = ⊥

-- the errors of an entry point for its stage
pub data IsStageFault (capabilities : Capabilities) (e : PlainEntry) (x : EntryPointError) : Type 0 where
  of_capability : IsCapabilityFault capabilities e.stage x → IsStageFault capabilities e x
  of_early : IsSome e.early → IsEarlyFault capabilities e.stage x → IsStageFault capabilities e x
  of_sizes : IsSizeFault (stage_row e.stage).workgroups e.sizes x → IsStageFault capabilities e x
  of_mesh : IsMeshInfoFault e.stage (is_some e.mesh) x → IsStageFault capabilities e x

-- ---- its payload

-- the payload is in another address space
pub record IsMisplaced (m : PlainModule) (e : PlainEntry) : Type 0 where
  pub variable : ℕ
  pub said : e.payload ≡ Some variable
  pub elsewhere : space_at m variable ≢ Some TaskPayload

abbrev pub IsPayloadFault : PlainModule → PlainEntry → EntryPointError → Type 0
IsPayloadFault m e error.ExpectedTaskPayload = (e.stage ≡ Task) × (e.payload ≡ None)
IsPayloadFault m e error.UnexpectedTaskPayload = (has_payload e.stage ≡ false) × IsSome e.payload
IsPayloadFault m e error.TaskPayloadWrongAddressSpace = IsMisplaced m e
IsPayloadFault m e _ = ⊥

-- ---- its uses

-- the use consists of this kind only
abbrev pub AreKinds : GlobalUse → (Uses : (k : ℕ) → Type 0) → Type 0
AreKinds kinds Uses = (k : ℕ) → (bit_at kinds.0 k ≡ 1) ↔ Uses k

-- the used payload is not the entry point's, or too small
abbrev pub IsPayloadUseFault : PlainModule → PlainEntry → (g : ℕ) → PlainGlobal → EntryPointError → Type 0
IsPayloadUseFault m e g v error.WrongTaskPayloadUsed = (v.space ≡ TaskPayload) × (e.payload ≢ Some g)
IsPayloadUseFault m e g v (error.TaskPayloadTooSmall bytes) = (v.space ≡ TaskPayload) × (bytes ≡ size (type_tree m.types v.ty)) × (bytes < 4)
IsPayloadUseFault m e g v _ = ⊥

-- the stage has no ray payloads in this address space
abbrev pub IsReachFault : ShaderStage → AddressSpace → EntryPointError → Type 0
IsReachFault stage space (error.RayPayloadInInvalidStage s) = (s ≡ stage) × (space ≡ RayPayload) × ((stage_row stage).traces ≡ false)
IsReachFault stage space (error.IncomingRayPayloadInInvalidStage s) = (s ≡ stage) × (space ≡ IncomingRayPayload) × ((stage_row stage).incoming ≡ false)
IsReachFault stage space _ = ⊥

-- its use is invalid
abbrev pub IsUseFault : PlainModule → PlainEntry → (g : ℕ) → PlainGlobal → (Uses : (k : ℕ) → Type 0) → EntryPointError → Type 0
IsUseFault m e g v Uses (error.InvalidGlobalUsage h kinds) = (h ≡ g) × AreKinds kinds Uses × ¬ AllowsUses m e v Uses
IsUseFault m e g v Uses _ = ⊥

-- the errors of a variable with this use
pub data IsVariableFault (m : PlainModule) (e : PlainEntry) (g : ℕ) (v : PlainGlobal) (Uses : (k : ℕ) → Type 0) (x : EntryPointError) : Type 0 where
  of_payload : IsPayloadUseFault m e g v x → IsVariableFault m e g v Uses x
  of_stage : IsReachFault e.stage v.space x → IsVariableFault m e g v Uses x
  of_uses : IsUseFault m e g v Uses x → IsVariableFault m e g v Uses x

-- a used variable has such an error
pub record IsFaultOfOne (m : PlainModule) (e : PlainEntry) (Uses : ℕ → ℕ → Type 0) (x : EntryPointError) : Type 0 where
  pub handle : ℕ
  pub variable : PlainGlobal
  pub at : slice_get m.globals handle ≡ Some variable
  pub used : IsUsed Uses handle
  pub fault : IsVariableFault m e handle variable (Uses handle) x

-- two immediates are used
pub record UsesTwoImmediates (m : PlainModule) (Uses : ℕ → ℕ → Type 0) : Type 0 where
  pub first : ℕ
  pub second : ℕ
  pub apart : first ≢ second
  pub first_used : IsUsed Uses first
  pub second_used : IsUsed Uses second
  pub first_lies : space_at m first ≡ Some Immediate
  pub second_lies : space_at m second ≡ Some Immediate

abbrev pub IsImmediateFault : PlainModule → (ℕ → ℕ → Type 0) → EntryPointError → Type 0
IsImmediateFault m Uses error.MoreThanOneImmediateUsed = UsesTwoImmediates m Uses
IsImmediateFault m Uses _ = ⊥

-- another used variable has the binding of this one
pub record SharesBinding (m : PlainModule) (Uses : ℕ → ℕ → Type 0) (handle : ℕ) : Type 0 where
  pub other : ℕ
  pub binding : ResourceBinding
  pub apart : other ≢ handle
  pub used : IsUsed Uses handle
  pub other_used : IsUsed Uses other
  pub bound : binding_at m handle ≡ Some binding
  pub other_bound : binding_at m other ≡ Some binding

abbrev pub IsBindingFault : PlainModule → (ℕ → ℕ → Type 0) → EntryPointError → Type 0
IsBindingFault m Uses (error.BindingCollision handle) = SharesBinding m Uses handle
IsBindingFault m Uses _ = ⊥

-- the errors of the variables that an entry point uses
pub data IsVariablesFault (flags : ValidationFlags) (m : PlainModule) (e : PlainEntry) (Uses : ℕ → ℕ → Type 0) (x : EntryPointError) : Type 0 where
  of_immediates : IsImmediateFault m Uses x → IsVariablesFault flags m e Uses x
  of_one : IsFaultOfOne m e Uses x → IsVariablesFault flags m e Uses x
  of_bindings : Has flags.0 BINDINGS.0 → IsBindingFault m Uses x → IsVariablesFault flags m e Uses x

-- ---- refusals

-- out of memory, or the error is one of these, without spans
abbrev pub IsRefusedFor : (EntryPointError → Type 0) → Refusal EntryPointError → Type 0
IsRefusedFor IsFault (refusal.Memory e) = Unit {0}
IsRefusedFor IsFault (refusal.Fault e) = IsFault (error_of e) × (spans_of e ≡ [])
