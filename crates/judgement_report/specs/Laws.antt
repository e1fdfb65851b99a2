-- When an entry point's info has what the report reads, and when a module meets the requirements of its leaves.
use Rattle.std.specs.Prelude.{◌≡◌, ◌<◌, ◌↔◌, ℕ, Bool, length}
use Rattle.ir_flags.specs.declared.settings.Settings.{Settings}
use Rattle.spec_expressions.specs.judged.Pairs.{SamplingPair}
use Rattle.typing_infos.specs.declared.function_info.FunctionInfo.{FunctionInfo}
use Rattle.ir_items.specs.judged.Plain.{PlainEntry, PlainModule}
use Rattle.judgement.specs.judged.ModuleSteps.{ModuleOK}
use Rattle.judgement_report.specs.Reported.{IsEntryInfo}
use Rattle.judgement_report.specs.Rows.{AreLaid}
use Rattle.judgement_report.specs.Runs.{all_stand_for, listed}
use Rattle.judgement.specs.judged.Leaves.{Leaf, leaves}
use Rattle.typing_layout.specs.judged.Tree.{Tree}
use Rattle.typing_rules.specs.judged.Laws.{IsAmong}
use Rattle.spec_expressions.specs.judged.CallChains.{HasUse, HasPair}
use Rattle.spec_expressions.specs.judged.Summaries.{HasUseBit}
use Rattle.spec_interface.specs.judged.Uses.{EntryUses}

-- It has the uses of global variables by all functions reachable from the entry point and by its payload and
-- its mesh output, and the sampled pairs of its function.
pub record IsNotedOf (m : PlainModule) (e : PlainEntry) (info : FunctionInfo) : Type 0 where
  pub many : length info.uses.items ≡ length m.globals
  pub uses : (g k : ℕ) → g < length m.globals → HasUseBit info.uses.items g k ↔ EntryUses e (HasUse m e.function) g k
  pub pairs : (p : SamplingPair) → IsAmong p info.sampling.items ↔ HasPair m e.function p

-- such an info has what the report reads
abbrev pub NotedIsReported : Type 0
NotedIsReported = (m : PlainModule) (e : PlainEntry) (info : FunctionInfo) → IsNotedOf m e info → IsEntryInfo m e info

-- each type of a module that passes the steps up to overrides has a layout
abbrev pub AcceptedIsLaid : Type 0
AcceptedIsLaid = (s : Settings) (resolved : Bool) (m : PlainModule) → ModuleOK s resolved m → AreLaid m

-- the leaves that the rows of a value represent are those of the value, with one element for a runtime-sized array
abbrev pub RowsAreLeaves : Type 0
RowsAreLeaves = (t : Tree) (l : Leaf) → IsAmong l (leaves 1 t) ↔ IsAmong l (all_stand_for (listed t))
