-- Refusals of varyings and of mesh shaders, reported as those of an entry point.
use Rattle.std.proofs.Common.{◌≡◌, ℕ, List, Some, sym, subst}
use Rattle.function_entry_checks.specs.Faults.{IsRefusedFor}
use Rattle.function_entry_checks.specs.declared.error.EntryPointError.{EntryPointError}
use Rattle.function_entries.specs.ConnectionFaults.{IsConnectionFault, of_mesh}
use Rattle.function_entries.specs.OutputFaults.{IsMeshFault}
use Rattle.function_entries.specs.VaryingFaults.{IsGivenFault, IsReportedOfResult}
use Rattle.ir_types.specs.declared.refusal.Refusal.{Refusal}
use Rattle.ir_types.specs.declared.refusal.Refusal.TheVariants as refusal
use Rattle.ir_flags.specs.declared.settings.Capabilities.{Capabilities}
use Rattle.ir_flags.specs.declared.settings.ValidationFlags.{ValidationFlags}
use Rattle.ir_items.specs.judged.Plain.{PlainEntry, PlainModule}
use Rattle.ir_items.specs.declared.entries.MeshStageInfo.{MeshStageInfo}
use Rattle.ir_types.specs.judged.Plain.{PlainType}
use Rattle.spec_interface.specs.judged.Contexts.{VaryingContext}
use Rattle.spec_interface.specs.declared.varyings.Varying.{Varying}
use Rattle.function_varying_checks.specs.Faults.{IsRefusal}
use Rattle.function_varying_checks.specs.declared.error.VaryingRefusal.{VaryingRefusal}
use Rattle.function_varying_checks.specs.declared.error.VaryingRefusal.TheVariants as varying

given_told : (c : VaryingContext) (vs : List Varying) (r : VaryingRefusal) (x : Refusal EntryPointError) → IsRefusal c vs r → IsReportedOfResult r x → IsRefusedFor (IsGivenFault c vs) x
given_told c vs (varying.Memory a) (refusal.Memory b) h told = tt
given_told c vs (varying.Memory a) (refusal.Fault f) h told = absurd told
given_told c vs (varying.Fault index e) (refusal.Memory b) h told = absurd told
given_told c vs (varying.Fault index e) (refusal.Fault f) h told = (subst (IsGivenFault c vs) (sym told.0) (index, h), told.1)

-- what is looked at is what an entry point's rules look at
module _ (v c : VaryingContext) (view : v ≡ c) where
  pub given_refused : (list : List PlainType → List Varying) (r : VaryingRefusal) (x : Refusal EntryPointError) → IsRefusal v (list v.types) r → IsReportedOfResult r x → IsRefusedFor (IsGivenFault c (list c.types)) x
  given_refused list r x h told = given_told c (list c.types) r x (subst (λ (y : VaryingContext). IsRefusal y (list y.types) r) view h) told

module _ (flags : ValidationFlags) (capabilities : Capabilities) (m : PlainModule) (e : PlainEntry) (Uses : ℕ → ℕ → Type 0) (i : MeshStageInfo) (at : e.mesh ≡ Some i) where
  pub mesh_refused : (x : Refusal EntryPointError) → IsRefusedFor (IsMeshFault flags capabilities m e i) x → IsRefusedFor (IsConnectionFault flags capabilities m e Uses) x
  mesh_refused (refusal.Memory a) h = tt
  mesh_refused (refusal.Fault f) h = (of_mesh i at h.0, h.1)
