-- The summary of a function, and its meaning.
use Rattle.std.specs.Prelude.{◌≡◌, ◌↔◌, ◌⊎◌, ℕ, ◌<◌, Bool, IsTrue, List, Some, None, length, slice_get, slice_index_or}
use Rattle.std.specs.Int.{bit_at}
use Rattle.typing_layout.specs.IrTypes.{PlainExpression}
use Rattle.ir_items.specs.judged.Plain.{PlainFunction, PlainModule}
use Rattle.typing_rules.specs.judged.Laws.{IsAmong}
use Rattle.spec_expressions.specs.declared.global_use.GlobalUse.{GlobalUse}
use Rattle.spec_expressions.specs.declared.global_use.TheConstants.GlobalUse.{QUERY}
use Rattle.spec_expressions.specs.declared.sampling.GlobalOrArgument.{GlobalOrArgument}
use Rattle.spec_expressions.specs.declared.sampling.GlobalOrArgument.TheVariants.{Argument}
use Rattle.spec_expressions.specs.judged.Pairs.{SamplingPair}
use Rattle.spec_expressions.specs.judged.Effects.{samples, runs, effects_of}
use Rattle.spec_expressions.specs.judged.CallChains.{global_or_argument, seen_through, UsesDirectly, NamesGlobal, HasUse, Samples, HasPair, Discards, MayKill}

-- The use of each global variable of the module, the sampled pairs, and whether it may discard.
pub record Summary : Type 0 where
  pub uses : List GlobalUse
  pub pairs : List SamplingPair
  pub may_kill : Bool

abbrev pub no_use : GlobalUse
no_use = record { 0 = 0 }

-- these uses have this flag for the global variable
abbrev pub HasUseBit : List GlobalUse → (g k : ℕ) → Type 0
HasUseBit uses g k = bit_at (slice_index_or uses g no_use).0 k ≡ 1

-- the summary has this effect
abbrev pub HasBit : Summary → (g k : ℕ) → Type 0
HasBit s g k = HasUseBit s.uses g k

-- The summary has exactly the effects of the function over all its call chains.
pub record IsSummary (m : PlainModule) (f : PlainFunction) (s : Summary) : Type 0 where
  pub uses : (g k : ℕ) → g < length m.globals → HasBit s g k ↔ HasUse m f g k
  pub pairs : (p : SamplingPair) → IsAmong p s.pairs ↔ HasPair m f p
  pub may_kill : IsTrue s.may_kill ↔ MayKill m f

-- ---- from the summaries of callees

-- a call statement of f calls the function of this summary, with these arguments
pub record CallsOne (f : PlainFunction) (summaries : List Summary) (arguments : List ℕ) (s : Summary) : Type 0 where
  pub callee : ℕ
  pub call : IsAmong (runs callee arguments) (effects_of f)
  pub found : slice_get summaries callee ≡ Some s

-- a callee's pair with these arguments is this pair in the caller
pub record ComesUp (expressions : List PlainExpression) (arguments : List ℕ) (below above : SamplingPair) : Type 0 where
  pub image : seen_through (global_or_argument expressions) arguments (Some below.0) ≡ Some above.0
  pub sampler : seen_through (global_or_argument expressions) arguments (Some below.1) ≡ Some above.1

-- a use of the function's own, or of one of its callees
abbrev pub JoinsUse : PlainFunction → List Summary → (g k : ℕ) → Type 0
JoinsUse f summaries g k = UsesDirectly g k f ⊎ ((arguments : List ℕ) × (t : Summary) × CallsOne f summaries arguments t × HasBit t g k)

-- f's own effects, joined for each call statement with those of the callee, the arguments substituted, and then QUERY for
-- each global variable that f refers to and that has no use by these. Only the summaries of callees matter.
pub record IsJoined (globals : ℕ) (f : PlainFunction) (summaries : List Summary) (s : Summary) : Type 0 where
  pub uses : (g k : ℕ) → g < globals
      → HasBit s g k ↔ (JoinsUse f summaries g k ⊎ ((bit_at QUERY.0 k ≡ 1) × NamesGlobal g f × ((j : ℕ) → JoinsUse f summaries g j → ⊥)))
  pub pairs : (p : SamplingPair) → IsAmong p s.pairs ↔ (Samples (global_or_argument f.expressions) f p
      ⊎ ((arguments : List ℕ) × (t : Summary) × (q : SamplingPair) × CallsOne f summaries arguments t × IsAmong q t.pairs × ComesUp f.expressions arguments q p))
  pub may_kill : IsTrue s.may_kill ↔ (Discards f ⊎ ((arguments : List ℕ) × (t : Summary) × CallsOne f summaries arguments t × IsTrue t.may_kill))

-- the callee exists, and so does its summary
pub record KnownCallee (m : PlainModule) (summaries : List Summary) (callee : ℕ) : Type 0 where
  pub function : PlainFunction
  pub found : slice_get m.functions callee ≡ Some function
  pub summary : Summary
  pub kept : slice_get summaries callee ≡ Some summary
  pub is : IsSummary m function summary

-- this holds for each call statement of f
abbrev pub CalleesKnown : PlainModule → PlainFunction → List Summary → Type 0
CalleesKnown m f summaries = (callee : ℕ) (arguments : List ℕ) → IsAmong (runs callee arguments) (effects_of f) → KnownCallee m summaries callee

-- each summary is that of the module's function at its index
abbrev pub AreSummaries : PlainModule → List Summary → Type 0
AreSummaries m summaries = (i : ℕ) (f : PlainFunction) (s : Summary) → slice_get m.functions i ≡ Some f → slice_get summaries i ≡ Some s → IsSummary m f s

-- each call statement of f calls a function below n
abbrev pub CallsBelow : PlainFunction → ℕ → Type 0
CallsBelow f n = (callee : ℕ) (arguments : List ℕ) → IsAmong (runs callee arguments) (effects_of f) → callee < n

-- the summaries of the functions that f calls are equal
abbrev pub AgreeOnCallees : PlainFunction → List Summary → List Summary → Type 0
AgreeOnCallees f summaries others =
    (callee : ℕ) (arguments : List ℕ) → IsAmong (runs callee arguments) (effects_of f) → slice_get summaries callee ≡ slice_get others callee

-- ---- forms of image and sampler operands

-- an image or sampler operand denotes neither a global variable nor an argument
abbrev pub IsWrongArgument : List PlainExpression → (arguments : List ℕ) → GlobalOrArgument → ℕ → Type 0
IsWrongArgument expressions arguments part e = (number : ℕ) × (part ≡ Argument number) × (slice_get arguments number ≡ Some e) × (global_or_argument expressions e ≡ None)

-- At e is a sample whose image or sampler has a wrong form, or an argument of a wrong form that is passed for an image
-- or a sampler of a callee's pair.
abbrev pub IsFormFault : PlainFunction → List Summary → ℕ → Type 0
IsFormFault f summaries e = ((image : ℕ) × (sampler : ℕ) × IsAmong (samples e image sampler) (effects_of f)
    × ((global_or_argument f.expressions image ≡ None) ⊎ (global_or_argument f.expressions sampler ≡ None)))
    ⊎ ((arguments : List ℕ) × (t : Summary) × (q : SamplingPair) × CallsOne f summaries arguments t × IsAmong q t.pairs
    × (IsWrongArgument f.expressions arguments q.0 e ⊎ IsWrongArgument f.expressions arguments q.1 e))
