-- Laws of the runs of a valid entry point.
use Rattle.std.specs.Prelude.{◌≡◌, ℕ, length, Some, slice_get}
use Rattle.ir_flags.specs.Sets.{Has}
use Rattle.ir_flags.specs.declared.settings.TheConstants.ValidationFlags.{BLOCKS, EXPRESSIONS, STRICT_SCOPE}
use Rattle.ir_flags.specs.declared.settings.Settings.{Settings}
use Rattle.ir_blocks.specs.judged.Plain.{PlainBlock}
use Rattle.ir_blocks.specs.judged.Tails.{IsCompleted}
use Rattle.ir_items.specs.judged.Plain.{PlainFunction, PlainEntry, PlainModule}
use Rattle.spec_interface.specs.judged.Modules.{EntryAtOK}
use Rattle.spec_statements.specs.judged.ModuleFunctions.{FunctionsOK}
use Rattle.spec_expressions.specs.judged.ModuleHandles.{HandlesOK}
use Rattle.spec_interface.specs.judged.Contexts.{stage_set}
use Rattle.spec_runs.specs.judged.Good.{DepthOK, TypesOK, LiveOK, SurelyLiveOK, NamedOK, SampledOK, StagesOK, FallsOK, NoEscape}
use Rattle.spec_runs.specs.judged.Laws.{OnEveryRun, OnEveryRunOf}
use Rattle.spec_runs.specs.judged.Scoping.{UsedOperands, all_operands}

-- The entry point at an index is valid, with the functions of its module, and bodies and expressions are checked.
pub record IsAcceptedEntry (s : Settings) (m : PlainModule) (number : ℕ) : Type 0 where
  pub handles : HandlesOK m
  pub functions : FunctionsOK s m
  pub entry : EntryAtOK s m number
  pub blocks : Has s.flags.0 BLOCKS.0
  pub expressions : Has s.flags.0 EXPRESSIONS.0

-- calls nest no deeper than the number of functions, whichever operands count as used
abbrev pub RunsNest : Type 0
RunsNest = (s : Settings) (m : PlainModule) (number : ℕ) (a : IsAcceptedEntry s m number) → (u : UsedOperands) → OnEveryRunOf u m a.entry.entry (DepthOK (length m.functions))

-- arguments and return values have the declared types
abbrev pub RunsPassTypes : Type 0
RunsPassTypes = (s : Settings) (m : PlainModule) (number : ℕ) (a : IsAcceptedEntry s m number) → (u : UsedOperands) → OnEveryRunOf u m a.entry.entry (TypesOK m)

-- what must be in scope is live where it is used, except for what a continue skipped
abbrev pub RunsUseLive : Type 0
RunsUseLive = (s : Settings) (m : PlainModule) (number : ℕ) (a : IsAcceptedEntry s m number) → OnEveryRun m a.entry.entry LiveOK

-- if strict scope is required, every operand of executed statements, of `break_if` conditions and of emitted expressions
-- is live where it is used, and so is everything that must be in scope without that check, whatever a continue skips
abbrev pub StrictRunsUseLive : Type 0
StrictRunsUseLive =
    (s : Settings) (m : PlainModule) (number : ℕ) (a : IsAcceptedEntry s m number) → Has s.flags.0 STRICT_SCOPE.0
    → OnEveryRunOf all_operands m a.entry.entry SurelyLiveOK × OnEveryRun m a.entry.entry SurelyLiveOK

-- the referenced global variables are those that a function reachable from the entry point references
abbrev pub RunsNameReached : Type 0
RunsNameReached = (s : Settings) (m : PlainModule) (number : ℕ) (a : IsAcceptedEntry s m number) → (u : UsedOperands) → OnEveryRunOf u m a.entry.entry (NamedOK m a.entry.entry.function)

-- the sampled pairs are those of the entry point
abbrev pub RunsSamplePairs : Type 0
RunsSamplePairs = (s : Settings) (m : PlainModule) (number : ℕ) (a : IsAcceptedEntry s m number) → (u : UsedOperands) → OnEveryRunOf u m a.entry.entry (SampledOK m a.entry.entry.function)

-- nothing is executed that the entry point's stage forbids
abbrev pub RunsKeepStage : Type 0
RunsKeepStage =
    (s : Settings) (m : PlainModule) (number : ℕ) (a : IsAcceptedEntry s m number) → (u : UsedOperands)
    → OnEveryRunOf u m a.entry.entry (StagesOK s.subgroup_stages a.entry.stages (stage_set a.entry.entry.stage).0)

-- no break or continue escapes its function
abbrev pub RunsNeverEscape : Type 0
RunsNeverEscape = (s : Settings) (m : PlainModule) (number : ℕ) (a : IsAcceptedEntry s m number) → (u : UsedOperands) → OnEveryRunOf u m a.entry.entry NoEscape

-- the body has missing returns inserted
abbrev pub HasReturns : PlainFunction → Type 0
HasReturns f = (b : PlainBlock) × IsCompleted b f.body

-- so have the bodies of all functions and entry points
pub record HaveReturns (m : PlainModule) : Type 0 where
  pub functions : (index : ℕ) (f : PlainFunction) → slice_get m.functions index ≡ Some f → HasReturns f
  pub entries : (number : ℕ) (e : PlainEntry) → slice_get m.entries number ≡ Some e → HasReturns e.function

-- if missing returns are inserted, a function with a result falls off its end only by a break out of a final switch
abbrev pub RunsFallByBreaks : Type 0
RunsFallByBreaks = (s : Settings) (m : PlainModule) (number : ℕ) (a : IsAcceptedEntry s m number) → HaveReturns m → (u : UsedOperands) → OnEveryRunOf u m a.entry.entry FallsOK
