-- The information on a valid entry point, over any layer.
use Rattle.std.specs.Prelude.{◌≡◌, ◌<◌, ◌↔◌, ℕ, Bool, IsTrue, List, Option, length}
use Rattle.spec_expressions.specs.judged.Pairs.{SamplingPair}
use Rattle.ir_flags.specs.Sets.{Has}
use Rattle.ir_flags.specs.declared.stages.ShaderStages.{ShaderStages}
use Rattle.ir_flags.specs.declared.settings.Settings.{Settings}
use Rattle.ir_items.specs.judged.Plain.{PlainEntry, PlainModule}
use Rattle.typing_rules.specs.judged.Laws.{IsAmong}
use Rattle.spec_expressions.specs.judged.CallChains.{HasUse, HasPair, MayKill}
use Rattle.spec_expressions.specs.judged.Summaries.{Summary, HasUseBit}
use Rattle.spec_interface.specs.judged.Entries.{EntryOK}
use Rattle.spec_interface.specs.judged.Uses.{EntryUses}
use Rattle.spec_statements.specs.judged.ExpressionStages.{all_stages}
use Rattle.spec_statements.specs.judged.Functions.{Reading, AllowsStage}
use Rattle.spec_statements.specs.judged.Payloads.{IsPayloadAfter}
use Rattle.spec_interface.specs.judged.Varyings.{HasBlendSources, result_varyings}

-- The summary has the uses of global variables by the entry point, over all call chains of its function and by its payload and
-- its mesh output, the pairs of its function, and whether that may execute `Kill`.
pub record IsEntrySummary (m : PlainModule) (e : PlainEntry) (t : Summary) : Type 0 where
  pub many : length t.uses ≡ length m.globals
  pub uses : (g k : ℕ) → g < length m.globals → HasUseBit t.uses g k ↔ EntryUses e (HasUse m e.function) g k
  pub pairs : (p : SamplingPair) → IsAmong p t.pairs ↔ HasPair m e.function p
  pub may_kill : IsTrue t.may_kill ↔ MayKill m e.function

-- What is noted in the information on its function: which stages may run it, and whether its results have two blend sources.
pub record IsEntryNoted (reading : Reading) (callees : List ShaderStages) (s : Settings) (m : PlainModule) (e : PlainEntry) (stages : ShaderStages) (blending : Bool) : Type 0 where
  pub run : (stage : ℕ) → Has stages.0 stage ↔ (Has all_stages.0 stage × AllowsStage reading s callees e.function stage)
  pub blended : IsTrue blending ↔ HasBlendSources (result_varyings m.types e.function.result)

-- The entry point is valid after this payload type, with this summary and these notes, and that payload type is kept
-- afterwards.
pub record IsEntryValidated (reading : Reading) (callees : List ShaderStages) (s : Settings) (before : Option ℕ) (m : PlainModule) (e : PlainEntry) (t : Summary) (stages : ShaderStages) (blending : Bool) (held : Option ℕ) : Type 0 where
  pub ok : EntryOK reading callees (HasUse m e.function) s before m e
  pub summary : IsEntrySummary m e t
  pub noted : IsEntryNoted reading callees s m e stages blending
  pub after : IsPayloadAfter s.flags m e.function before held

-- ---- intermediate results

-- the summary t has those of s, and the uses of the entry point's payload and its mesh output
pub record AddsOwnUses (e : PlainEntry) (s t : Summary) : Type 0 where
  pub many : length t.uses ≡ length s.uses
  pub uses : (g k : ℕ) → HasUseBit t.uses g k ↔ EntryUses e (HasUseBit s.uses) g k
  pub pairs : t.pairs ≡ s.pairs
  pub may_kill : t.may_kill ≡ s.may_kill

-- both have the same
pub record ReportsSame (s t : Summary) : Type 0 where
  pub many : length t.uses ≡ length s.uses
  pub uses : (g k : ℕ) → HasUseBit t.uses g k ↔ HasUseBit s.uses g k
  pub pairs : t.pairs ≡ s.pairs
  pub may_kill : t.may_kill ≡ s.may_kill
