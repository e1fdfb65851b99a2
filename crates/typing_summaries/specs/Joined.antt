-- The callees merged so far, whose pairs are in the list.
use Rattle.std.specs.Prelude.{◌≡◌, ◌⊎◌, ℕ, true, List, Option, Some, slice_get}
use Rattle.std.specs.List.{list_any}
use Rattle.typing_rules.specs.judged.Laws.{IsAmong}
use Rattle.ir_types.specs.judged.ExpressionPlain.{PlainExpression}
use Rattle.spec_expressions.specs.declared.sampling.GlobalOrArgument.{GlobalOrArgument}
use Rattle.spec_expressions.specs.judged.Pairs.{SamplingPair, pair_eq}
use Rattle.typing_infos.specs.Marks.{marks_of}
use Rattle.spec_expressions.specs.judged.CallChains.{global_or_argument, seen_through}
use Rattle.spec_expressions.specs.judged.Summaries.{Summary}
use Rattle.typing_summaries.specs.Parts.{parts_of}
use Rattle.typing_summaries.specs.Tallies.{Known, Paired}
use Rattle.typing_summaries.specs.declared.joined.Passed.{Passed}

-- the info of the callee has these pairs
pub record IsKept (k : Known) (callee : ℕ) (pairs : List SamplingPair) : Type 0 where
  pub summary : Summary
  pub found : slice_get k.summaries callee ≡ Some summary
  pub same : summary.pairs ≡ pairs

-- an operand is at fault
abbrev pub IsWrong : Paired → Type 0
IsWrong t = (e : ℕ) × (t.wrong ≡ Some e)

-- each pair of a callee with these arguments is in the list, with the arguments substituted, if both parts denote something
abbrev pub IsCovered : List PlainExpression → (arguments : List ℕ) → (pairs held : List SamplingPair) → Type 0
IsCovered expressions arguments pairs held =
    (q : SamplingPair) → IsAmong q pairs → (image sampler : GlobalOrArgument) → seen_through (global_or_argument expressions) arguments (Some q.0) ≡ Some image
    → seen_through (global_or_argument expressions) arguments (Some q.1) ≡ Some sampler → list_any (pair_eq (image, sampler)) held ≡ true

-- the entry has its callee's info; and its pairs are in the list, for any arguments with these parts
pub record IsJoined (k : Known) (held : List SamplingPair) (p : Passed) : Type 0 where
  pub kept : IsKept k p.callee p.pairs.items
  pub covered : (arguments : List ℕ) → parts_of (global_or_argument k.expressions) (marks_of p.pairs.items) arguments ≡ p.parts.items → IsCovered k.expressions arguments p.pairs.items held

abbrev pub AreJoined : Known → List Passed → List SamplingPair → Type 0
AreJoined k joined held = (p : Passed) → IsAmong p joined → IsJoined k held p

-- this callee, or one with these pairs, was merged for these parts
abbrev pub Holds : List Passed → (callee : ℕ) → List SamplingPair → List (Option GlobalOrArgument) → Type 0
Holds joined callee pairs parts = (p : Passed) × IsAmong p joined × (p.parts.items ≡ parts) × ((p.callee ≡ callee) ⊎ (p.pairs.items ≡ pairs))
