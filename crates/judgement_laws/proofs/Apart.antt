-- The global variables of an entry point's report have distinct bindings.
use Rattle.std.proofs.Common.{◌≡◌, ◌<◌, inl, inr, ℕ, List, Option, Some, None, IsSome, IsTrue, length, slice_get, option_and_then, refl, subst, sym, ap, ◌∙◌, true≢false}
use Rattle.std.specs.Int.{bit_at}
use Rattle.std.proofs.lemmas.Option.{same_Some, slice_get_within}
use Rattle.ir_items.specs.judged.GlobalPlain.{PlainGlobal}
use Rattle.ir_items.specs.judged.Plain.{PlainEntry, PlainModule}
use Rattle.ir_kinds.specs.declared.bindings.ResourceBinding.{ResourceBinding}
use Rattle.judgement_laws.specs.found.AcceptedLaws.{IsReported, as_payload, as_output, as_other, BindingsDiffer}
use Rattle.spec_expressions.specs.judged.CallChains.{HasUse}
use Rattle.ir_kinds.specs.declared.stages.ShaderStage.{ShaderStage}
use Rattle.ir_kinds.specs.declared.stages.ShaderStage.TheVariants.{Mesh, Task}
use Rattle.spec_interface.specs.judged.Payloads.{PayloadOK, binding_at, has_payload}
use Rattle.spec_interface.specs.judged.Uses.{EntryUses, own_payload_use}
use Rattle.spec_interface.specs.judged.UsedVariables.{IsUsed}
use Rattle.judgement.proofs.Named.{used_bit}
use Rattle.judgement.specs.judged.Reports.{IsEntryReport}

-- a variable with a binding is one of the module
bound_in : (m : PlainModule) (g : ℕ) (b : ResourceBinding) (o : Option PlainGlobal) → slice_get m.globals g ≡ o → option_and_then (λ (v : PlainGlobal). v.binding) o ≡ Some b → g < length m.globals
bound_in m g b None at e = absurd (let h = e in cc)
bound_in m g b (Some v) at e = slice_get_within m.globals g v at

-- a payload of a stage that may have one is used
uses_payload : (stage : ShaderStage) → IsTrue (has_payload stage) → (k : ℕ) × (bit_at (own_payload_use stage).0 k ≡ 1)
uses_payload Task may = (0, refl)
uses_payload Mesh may = (0, refl)
uses_payload _ may = absurd (true≢false (sym may))

module _ (m : PlainModule) (number : ℕ) (e : PlainEntry) (lines : List ℕ) (r : IsEntryReport m number e lines) (g : ℕ) (b : ResourceBinding) (payload : PayloadOK m e) (bound : binding_at m g ≡ Some b) where
  pub told_is_used : IsReported m number e lines r g → IsUsed (EntryUses e (HasUse m e.function)) g
  told_is_used (as_payload own) =
      let way = uses_payload e.stage (payload.stages (subst IsSome (sym own) refl)) in
      (way.0, inr (inl (own, way.1)))
  told_is_used (as_output own) = (0, inr (inr (own, refl)))
  told_is_used (as_other other used) =
      let bit = used_bit r.uses g used in
      (bit.0, inl ((r.are_uses.exact g bit.0 (bound_in m g b (slice_get m.globals g) refl bound) other).0 bit.1))

pub bindings_differ : BindingsDiffer
bindings_differ s m ok asked number e at lines r g h b g_told h_told g_at h_at =
    let within = slice_get_within m.entries number e at in
    let entry = ok number within in
    let same : entry.entry ≡ e = same_Some _ _ (sym entry.at ∙ at) in
    let apart = subst (λ (x : PlainEntry). (j k : ℕ) (d : ResourceBinding) → IsUsed (EntryUses x (HasUse m x.function)) j → IsUsed (EntryUses x (HasUse m x.function)) k → binding_at m j ≡ Some d → binding_at m k ≡ Some d → j ≡ k) same
    (entry.ok.connections.variables.bound asked) in
    let payload = subst (PayloadOK m) same entry.ok.payload in
    apart g h b (told_is_used m number e lines r g b payload g_at g_told) (told_is_used m number e lines r h b payload h_at h_told) g_at h_at
