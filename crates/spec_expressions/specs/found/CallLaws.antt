-- The summary of a function over its call chains, by its own body and its callees.
use Rattle.std.specs.Prelude.{◌≡◌, ◌↔◌, ◌⊎◌, ℕ, List, length}
use Rattle.std.specs.Int.{bit_at}
use Rattle.ir_items.specs.judged.Plain.{PlainFunction, PlainModule}
use Rattle.spec_expressions.specs.declared.global_use.TheConstants.GlobalUse.{QUERY}
use Rattle.spec_expressions.specs.judged.Pairs.{SamplingPair}
use Rattle.spec_expressions.specs.judged.CallChains.{global_or_argument, Step, Calls, UsesDirectly, NamesGlobal, IsUnusedFrom, HasUse, Samples, HasPair, Discards, MayKill}
use Rattle.spec_expressions.specs.judged.Summaries.{Summary, ComesUp, IsJoined, IsSummary, CalleesKnown, AreSummaries, CallsBelow, AgreeOnCallees}

-- A use is the function's own or a callee's, or QUERY of a global variable that the function refers to and that no function
-- reachable from it uses directly.
abbrev pub UsesByCalls : Type 0
UsesByCalls =
    (m : PlainModule) (f : PlainFunction) (g k : ℕ)
    → HasUse m f g k ↔ (UsesDirectly g k f ⊎ (((s : Step) × Calls m f s × HasUse m s.function g k) ⊎ ((bit_at QUERY.0 k ≡ 1) × NamesGlobal g f × IsUnusedFrom m g f)))

-- A pair is the function's own, or a callee's with the arguments substituted.
abbrev pub PairsByCalls : Type 0
PairsByCalls =
    (m : PlainModule) (f : PlainFunction) (p : SamplingPair)
    → HasPair m f p ↔ (Samples (global_or_argument f.expressions) f p
    ⊎ ((s : Step) × (q : SamplingPair) × Calls m f s × HasPair m s.function q × ComesUp f.expressions s.arguments q p))

-- The function discards itself, or a callee may.
abbrev pub KillsByCalls : Type 0
KillsByCalls = (m : PlainModule) (f : PlainFunction) → MayKill m f ↔ (Discards f ⊎ ((s : Step) × Calls m f s × MayKill m s.function))

-- A function's own effects joined with its callees' summaries are its summary over all call chains.
abbrev pub JoinedIsSummary : Type 0
JoinedIsSummary =
    (m : PlainModule) (f : PlainFunction) (summaries : List Summary) (s : Summary)
    → CalleesKnown m f summaries → IsJoined (length m.globals) f summaries s → IsSummary m f s

-- Only the summaries of callees matter.
abbrev pub JoinedByCallees : Type 0
JoinedByCallees =
    (globals : ℕ) (f : PlainFunction) (summaries others : List Summary) (s : Summary)
    → AgreeOnCallees f summaries others → IsJoined globals f summaries s → IsJoined globals f others s

-- Summaries of the first functions of a module are those of all callees of a function that calls only these.
abbrev pub CalleesAreKnown : Type 0
CalleesAreKnown =
    (m : PlainModule) (f : PlainFunction) (summaries : List Summary)
    → AreSummaries m summaries → CallsBelow f (length summaries) → CallsBelow f (length m.functions) → CalleesKnown m f summaries
