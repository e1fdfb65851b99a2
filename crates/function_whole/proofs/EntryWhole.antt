-- An entry point that is accepted or refused, put together of its parts.
use Rattle.std.proofs.Common.{◌≡◌, ◌↔◌, inl, inr, ◌<◌, ◌||◌, ℕ, Option, true, List, Bool, IsTrue, false, length, ◌^◌, ◌-◌, refl, sym, ap, subst, ◌∙◌}
use Rattle.function_entry_checks.specs.Faults.{IsPayloadFault, IsRefusedFor, IsStageFault}
use Rattle.function_entry_checks.specs.declared.error.EntryPointError.{EntryPointError}
use Rattle.function_entry_checks.specs.declared.error.EntryPointError.TheVariants.{ForbiddenStageOperations}
use Rattle.function_entries.proofs.Refuted.{connection_refuted, payload_fault_refutes, stage_fault_refutes}
use Rattle.function_entries.proofs.Transport.{connection_fault_to, connections_to}
use Rattle.function_entries.specs.ConnectionFaults.{IsConnectionFault}
use Rattle.function_whole.specs.EntryFaults.{of_stage, of_function, of_payload, of_runs, of_connections, IsEntryPointFaultAt, IsRefusedAs, IsRefusedAt, IsReportedAs, IsUnconnected}
use Rattle.function_whole.specs.Validated.{AddsOwnUses, IsEntrySummary, ReportsSame}
use Rattle.typing_errors.specs.declared.error.FunctionError.{FunctionError}
use Rattle.function_whole.specs.Faults.{IsFunctionFault, IsFunctionFaultAt}
use Rattle.function_interface.specs.Analysis.{Faults, IsRefusedAt as IsFunctionRefusedAt, IsRefusedFor as IsFunctionRefusedFor}
use Rattle.ir_types.specs.found.Faults.{error_of}
use Rattle.ir_types.specs.declared.refusal.Refusal.{Refusal}
use Rattle.ir_types.specs.declared.refusal.Refusal.TheVariants as refusal
use Rattle.ir_types.specs.declared.with_span.WithSpan.{WithSpan}
use Rattle.ir_blocks.specs.judged.Places.{Place, here}
use Rattle.ir_places.proofs.TrailLaws.{placed, placed_then}
use Rattle.ir_places.specs.Paths.{place_of}
use Rattle.ir_places.specs.declared.trail.Trail.{Trail}
use Rattle.ir_flags.proofs.SetLaws.{all_shader_stages}
use Rattle.ir_flags.specs.Sets.{Has}
use Rattle.ir_flags.specs.declared.settings.Capabilities.{Capabilities}
use Rattle.ir_flags.specs.declared.settings.ValidationFlags.{ValidationFlags}
use Rattle.ir_flags.specs.declared.stages.ShaderStages.{ShaderStages}
use Rattle.ir_flags.specs.declared.settings.Settings.{Settings}
use Rattle.ir_items.specs.judged.Plain.{PlainEntry, PlainModule}
use Rattle.ir_kinds.specs.declared.stages.ShaderStage.{ShaderStage}
use Rattle.ir_kinds.specs.declared.stages.ShaderStage.TheVariants.{Vertex, Fragment, Compute, Mesh, Task, RayGeneration, AnyHit, ClosestHit, Miss}
use Rattle.typing_rules.specs.judged.Laws.{IsAmong}
use Rattle.spec_expressions.specs.judged.CallChains.{HasUse, HasPair, MayKill}
use Rattle.spec_expressions.specs.judged.Summaries.{HasUseBit, IsSummary, Summary}
use Rattle.spec_interface.specs.judged.Entries.{ConnectionsOK}
use Rattle.spec_interface.specs.judged.Uses.{EntryUses}
use Rattle.spec_statements.specs.judged.ExpressionStages.{all_stages}
use Rattle.spec_statements.specs.judged.Functions.{AllowsStage, FunctionOK, Reading}
use Rattle.spec_interface.specs.judged.Contexts.{stage_set}

-- ---- refusals

pub refused_as : (P Q : EntryPointError → Type 0) → ((x : EntryPointError) → P x → Q x) → (r : Refusal EntryPointError) → IsRefusedFor P r → IsRefusedFor Q r
refused_as P Q widen (refusal.Memory a) h = tt
refused_as P Q widen (refusal.Fault f) h = (widen (error_of f) h.0, h.1)

-- ---- stages

in_nine : (stage : ShaderStage) → Has (2 ^ 9 - 1) (stage_set stage).0
in_nine Vertex = refl
in_nine Fragment = refl
in_nine Compute = refl
in_nine Mesh = refl
in_nine Task = refl
in_nine RayGeneration = refl
in_nine AnyHit = refl
in_nine ClosestHit = refl
in_nine Miss = refl

in_all : (stage : ShaderStage) → Has all_stages.0 (stage_set stage).0
in_all stage = subst (λ bits. Has bits (stage_set stage).0) (sym all_shader_stages) (in_nine stage)

-- ---- uses

module _ (m : PlainModule) (e : PlainEntry) (before after : Summary) where
  -- the uses that are noted beside those over all chains of calls
  chained : IsSummary m e.function before → AddsOwnUses e before after → (g k : ℕ) → g < length m.globals → HasUseBit after.uses g k ↔ EntryUses e (HasUse m e.function) g k
  chained is adds g k lt = (
    λ h. elim ((adds.uses g k).0 h) [ inl b ↦ inl ((is.uses g k lt).0 b) | inr own ↦ inr own ],
    λ h. (adds.uses g k).1 (elim h [ inl j ↦ inl ((is.uses g k lt).1 j) | inr own ↦ inr own ]),
  )

  pub entry_summary : length before.uses ≡ length m.globals → IsSummary m e.function before → AddsOwnUses e before after → IsEntrySummary m e after
  entry_summary many is adds = record {
    many = adds.many ∙ many;
    uses = chained is adds;
    pairs = λ p. subst (λ ps. IsAmong p ps ↔ HasPair m e.function p) (sym adds.pairs) (is.pairs p);
    may_kill = subst (λ b. IsTrue b ↔ MayKill m e.function) (sym adds.may_kill) is.may_kill;
  }

  -- what is reported in the same way
  pub adds_still : (last : Summary) → AddsOwnUses e before after → ReportsSame after last → AddsOwnUses e before last
  adds_still last adds same = record {
    many = same.many ∙ adds.many;
    uses = λ g k. (λ h. (adds.uses g k).0 ((same.uses g k).0 h), λ h. (same.uses g k).1 ((adds.uses g k).1 h));
    pairs = same.pairs ∙ adds.pairs;
    may_kill = same.may_kill ∙ adds.may_kill;
  }

-- what is said of some uses is said of those that are the same for the variables of the module
module _ (m : PlainModule) (e : PlainEntry) (U V : ℕ → ℕ → Type 0) (same : (g k : ℕ) → g < length m.globals → U g k ↔ V g k) (flags : ValidationFlags) (capabilities : Capabilities) where
  back : (g k : ℕ) → g < length m.globals → V g k ↔ U g k
  back g k lt = ((same g k lt).1, (same g k lt).0)

  pub unconnected_to : (x : EntryPointError) → IsUnconnected flags capabilities m e U x → IsUnconnected flags capabilities m e V x
  unconnected_to x u = record {
    refused = λ ok. u.refused (connections_to m e V U back flags capabilities ok);
    fault = connection_fault_to m e U V same flags capabilities x u.fault;
  }

pub uses_added : (m : PlainModule) (e : PlainEntry) (before after : Summary) → AddsOwnUses e before after → (flags : ValidationFlags) (capabilities : Capabilities) → ConnectionsOK flags capabilities m e (HasUseBit after.uses)
    → ConnectionsOK flags capabilities m e (EntryUses e (HasUseBit before.uses))
uses_added m e before after adds flags capabilities ok = connections_to m e (HasUseBit after.uses) (EntryUses e (HasUseBit before.uses)) (λ g k lt. adds.uses g k) flags capabilities ok

pub unconnected : (flags : ValidationFlags) (capabilities : Capabilities) (m : PlainModule) (e : PlainEntry) (Uses : ℕ → ℕ → Type 0) (x : EntryPointError) → IsConnectionFault flags capabilities m e Uses x
    → IsUnconnected flags capabilities m e Uses x
unconnected flags capabilities m e Uses x fault = record { refused = λ ok. connection_refuted flags capabilities m e Uses x fault ok; fault = fault }

-- ---- all parts

module _ (R : Reading) (F : Faults) (callees : List ShaderStages) (s : Settings) (held : Option ℕ) (m : PlainModule) (e : PlainEntry) where
  abbrev Refused : EntryPointError → Type 0
  Refused x = IsRefusedAs R F callees (HasUse m e.function) s held m e x

  -- the same of a fault at a place
  abbrev FaultAt : Place → EntryPointError → Type 0
  FaultAt p x = IsEntryPointFaultAt R F callees (HasUse m e.function) s held m e p x

  pub anywhere : (t : Trail) (told : WithSpan EntryPointError) (x : EntryPointError) → error_of told ≡ x → FaultAt (place_of t) x → IsRefusedAt t FaultAt (refusal.Fault told)
  anywhere t told x is h = placed t (λ p. FaultAt p (error_of told)) (subst (FaultAt (place_of t)) (sym is) h)

  pub function_at : (t : Trail) (r : Refusal FunctionError) (told : Refusal EntryPointError) → IsReportedAs r told → IsFunctionRefusedAt t (IsFunctionFaultAt R F s true held m e.function) r → IsRefusedAt t FaultAt told
  function_at t (refusal.Memory a) (refusal.Memory b) told fault = tt
  function_at t (refusal.Memory a) (refusal.Fault f) told fault = absurd told
  function_at t (refusal.Fault d) (refusal.Memory b) told fault = absurd told
  function_at t (refusal.Fault d) (refusal.Fault f) told fault =
      placed_then t (IsFunctionFaultAt R F s true held m e.function (error_of d)) (λ p. FaultAt p (error_of f)) (λ p w. subst (FaultAt p) (sym told.0) (of_function w)) fault.0

  pub by_stage : (x : EntryPointError) → IsStageFault s.capabilities e x → Refused x
  by_stage x fault = record { refused = λ ok. stage_fault_refutes s.capabilities e x fault ok.stage; fault = (here, of_stage fault) }

  pub by_payload : (x : EntryPointError) → IsPayloadFault m e x → Refused x
  by_payload x fault = record { refused = λ ok. payload_fault_refutes m e x fault ok.payload; fault = (here, of_payload fault) }

  pub by_function : (r : Refusal FunctionError) (t : Refusal EntryPointError) → IsReportedAs r t → IsFunctionRefusedFor (λ y. FunctionOK R s true held m e.function → ⊥) r → IsFunctionRefusedFor (IsFunctionFault R F s true held m e.function) r
      → IsRefusedFor Refused t
  by_function (refusal.Memory a) (refusal.Memory b) told refused fault = tt
  by_function (refusal.Memory a) (refusal.Fault f) told refused fault = absurd told
  by_function (refusal.Fault d) (refusal.Memory b) told refused fault = absurd told
  by_function (refusal.Fault d) (refusal.Fault f) told refused fault = (subst Refused (sym told.0) (record { refused = λ ok. refused.0 ok.function; fault = (fault.0.0, of_function fault.0.1) }), told.1)

  module _ (noted : ShaderStages) (exact : (stage : ℕ) → Has noted.0 stage ↔ (Has all_stages.0 stage × AllowsStage R s callees e.function stage)) where
    pub by_runs : ¬ Has noted.0 (stage_set e.stage).0 → Refused ForbiddenStageOperations
    by_runs cannot =
        let forbidden : ¬ AllowsStage R s callees e.function (stage_set e.stage).0 = λ a. cannot ((exact (stage_set e.stage).0).1 (in_all e.stage, a)) in
        record { refused = λ ok. forbidden ok.runs; fault = (here, of_runs forbidden) }

    pub runs_at : (p : Place) → ¬ Has noted.0 (stage_set e.stage).0 → FaultAt p ForbiddenStageOperations
    runs_at p cannot = of_runs (λ a. cannot ((exact (stage_set e.stage).0).1 (in_all e.stage, a)))

    pub runs : Has noted.0 (stage_set e.stage).0 → AllowsStage R s callees e.function (stage_set e.stage).0
    runs has = ((exact (stage_set e.stage).0).0 has).1

  module _ (before : Summary) (is : IsSummary m e.function before) where
    same_own : (g k : ℕ) → g < length m.globals → EntryUses e (HasUseBit before.uses) g k ↔ EntryUses e (HasUse m e.function) g k
    same_own g k lt = (
      λ o. elim o [ inl b ↦ inl ((is.uses g k lt).0 b) | inr own ↦ inr own ],
      λ o. elim o [ inl j ↦ inl ((is.uses g k lt).1 j) | inr own ↦ inr own ],
    )

    pub by_connections : (x : EntryPointError) → IsUnconnected s.flags s.capabilities m e (EntryUses e (HasUseBit before.uses)) x → Refused x
    by_connections x u =
        let moved = unconnected_to m e (EntryUses e (HasUseBit before.uses)) (EntryUses e (HasUse m e.function)) same_own s.flags s.capabilities x u in
        record { refused = λ ok. moved.refused ok.connections; fault = (here, of_connections moved.fault) }

    pub connections_at : (t : Trail) (r : Refusal EntryPointError) → IsRefusedFor (IsUnconnected s.flags s.capabilities m e (EntryUses e (HasUseBit before.uses))) r → IsRefusedAt t FaultAt r
    connections_at t (refusal.Memory x) h = tt
    connections_at t (refusal.Fault x) h =
        let moved = unconnected_to m e (EntryUses e (HasUseBit before.uses)) (EntryUses e (HasUse m e.function)) same_own s.flags s.capabilities (error_of x) h.0 in
        placed t (λ p. FaultAt p (error_of x)) (of_connections moved.fault)

    pub connected : ConnectionsOK s.flags s.capabilities m e (EntryUses e (HasUseBit before.uses)) → ConnectionsOK s.flags s.capabilities m e (EntryUses e (HasUse m e.function))
    connected ok = connections_to m e (EntryUses e (HasUseBit before.uses)) (EntryUses e (HasUse m e.function)) same_own s.flags s.capabilities ok

-- what is noted is noted still where its bits are the same
pub noted_still : (R : Reading) (callees : List ShaderStages) (s : Settings) (e : PlainEntry) (noted last : ShaderStages) → last.0 ≡ noted.0
    → ((stage : ℕ) → Has noted.0 stage ↔ (Has all_stages.0 stage × AllowsStage R s callees e.function stage)) → (stage : ℕ) → Has last.0 stage ↔ (Has all_stages.0 stage × AllowsStage R s callees e.function stage)
noted_still R callees s e noted last same exact stage = subst (λ bits. Has bits stage ↔ (Has all_stages.0 stage × AllowsStage R s callees e.function stage)) (sym same) (exact stage)

-- ---- blending

pub blending_is : (A : Type 0) (first second blended last : Bool) → first ≡ false → second ≡ first → last ≡ (second || blended) → IsTrue blended ↔ A → IsTrue last ↔ A
blending_is A first second blended last none same is told =
    let e : last ≡ blended = is ∙ ap (λ b. b || blended) (same ∙ none) in
    subst (λ b. IsTrue b ↔ A) (sym e) told
