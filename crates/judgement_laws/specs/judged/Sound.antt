-- The guarantees for a valid module and its report.
use Rattle.std.specs.Prelude.{◌≡◌, ℕ, Bool, true, List, length, IsTrue, Some, slice_get}
use Rattle.ir_flags.specs.Sets.{Has}
use Rattle.ir_flags.specs.declared.settings.TheConstants.ValidationFlags.{BLOCKS, EXPRESSIONS, STRUCT_LAYOUTS}
use Rattle.ir_flags.specs.declared.stages.ShaderStages.{ShaderStages}
use Rattle.ir_flags.specs.declared.settings.Settings.{Settings}
use Rattle.ir_items.specs.judged.GlobalPlain.{PlainGlobal}
use Rattle.ir_items.specs.judged.Plain.{PlainEntry, PlainModule}
use Rattle.judgement.specs.judged.Steps.{IsPrepared, IsFinding, IsScopeStrict}
use Rattle.judgement.specs.declared.finding.Finding.TheVariants.{Accepted}
use Rattle.judgement.specs.judged.BufferLaws.{buffer_type}
use Rattle.judgement.specs.judged.Sound.{StrideOK, LeavesOK}
use Rattle.spec_interface.specs.judged.Modules.{AreStages}
use Rattle.judgement.specs.judged.Lines.{is_buffer, buffer_line}
use Rattle.judgement.specs.judged.Reports.{IsReport}
use Rattle.spec_interface.specs.judged.Contexts.{stage_set}
use Rattle.typing_layout.specs.judged.Layout.{size, alignment}
use Rattle.typing_layout.specs.judged.Parts.{Everywhere}
use Rattle.spec_runs.specs.judged.Good.{DepthOK, TypesOK, LiveOK, SurelyLiveOK, StagesOK, FallsOK, NoEscape}
use Rattle.spec_runs.specs.judged.Laws.{OnEveryRun, OnEveryRunOf}
use Rattle.spec_runs.specs.judged.Scoping.{all_operands}
use Rattle.judgement_laws.specs.judged.Lines.{HasLines, EntryIsReported, NamedIsReported, SampledIsReported}

-- The stages that may run each function of the module, its callees included; with these, nothing is executed or emitted
-- that the stage of the entry point forbids.
pub record StageIsKept (s : Settings) (m : PlainModule) (e : PlainEntry) : Type 0 where
  pub functions : List ShaderStages
  pub are : AreStages s m functions
  pub every : OnEveryRun m e (StagesOK s.subgroup_stages functions (stage_set e.stage).0)

-- The guarantees for an entry point. Every run of it
pub record EntryIsSound (returns : Bool) (s : Settings) (m : PlainModule) (report : List ℕ) (number : ℕ) (e : PlainEntry) : Type 0 where
  -- nests calls no deeper than the number of functions,
  pub depth : OnEveryRun m e (DepthOK (length m.functions))
  -- passes and returns only values of the declared types,
  pub types : OnEveryRun m e (TypesOK m)
  -- uses only operands that are live, except for those that a continue skipped,
  pub live : OnEveryRun m e LiveOK
  -- and if strict scope is checked, uses only operands that are live, including those of emitted expressions, whatever a
  -- continue skipped,
  pub all_live : IsScopeStrict s.flags → OnEveryRunOf all_operands m e SurelyLiveOK
  pub surely_live : IsScopeStrict s.flags → OnEveryRun m e SurelyLiveOK
  -- references and samples only what the entry point's lines in the report list,
  pub told : EntryIsReported m report number e
  pub named : OnEveryRun m e (NamedIsReported told.lines)
  pub sampled : OnEveryRun m e (SampledIsReported told.lines)
  -- executes nothing that its stage forbids,
  pub stage : StageIsKept s m e
  -- if missing returns are inserted, falls off the end of a function with a result only by a break out of a final switch,
  pub falls : returns ≡ true → OnEveryRun m e FallsOK
  -- and no break or continue escapes its function.
  pub contained : OnEveryRun m e NoEscape

-- The guarantees for a buffer: a line of the report gives its size and its alignment, and, unless some array stride in it is less
-- than its element size, its leaves are aligned, disjoint and within that size.
pub record BufferIsSound (m : PlainModule) (report : List ℕ) (number : ℕ) (v : PlainGlobal) : Type 0 where
  pub told : HasLines (buffer_line number (size (buffer_type m.types v)) (alignment (buffer_type m.types v))) report
  pub leaves : Everywhere StrideOK (buffer_type m.types v) → LeavesOK (buffer_type m.types v)

-- The guarantees for a module: for each of its buffers, and for each of its entry points.
pub record ModuleIsSound (returns : Bool) (s : Settings) (m : PlainModule) (report : List ℕ) : Type 0 where
  pub buffers : (number : ℕ) (v : PlainGlobal) → slice_get m.globals number ≡ Some v → IsTrue (is_buffer v.space) → BufferIsSound m report number v
  pub entries : (number : ℕ) (e : PlainEntry) → slice_get m.entries number ≡ Some e → EntryIsSound returns s m report number e

-- The flags that the guarantees require: layouts, bodies and expressions are checked.
pub record AreChecked (s : Settings) : Type 0 where
  pub layouts : Has s.flags.0 STRUCT_LAYOUTS.0
  pub blocks : Has s.flags.0 BLOCKS.0
  pub expressions : Has s.flags.0 EXPRESSIONS.0

-- The module that is validated, d with missing returns inserted if requested, is sound if it is valid under these flags.
abbrev pub AcceptedIsSound : Type 0
AcceptedIsSound = (returns : Bool) (s : Settings) (d m : PlainModule) (strict : Bool) → IsPrepared returns d m → IsFinding s m (Accepted strict) → AreChecked s
    → (report : List ℕ) → IsReport m report → ModuleIsSound returns s m report

-- If the module is valid under these flags, no run of an entry point of it nests calls deeper than this.
abbrev pub BoundsDepth : PlainModule → (most : ℕ) → Type 0
BoundsDepth m most = (s : Settings) (strict : Bool) → IsFinding s m (Accepted strict) → AreChecked s → (number : ℕ) (e : PlainEntry) → slice_get m.entries number ≡ Some e → OnEveryRun m e (DepthOK most)

-- the number of its functions is such a bound
abbrev pub FunctionsBoundDepth : Type 0
FunctionsBoundDepth = (m : PlainModule) → BoundsDepth m (length m.functions)
