-- The report of a valid module: all lines after the first one, which says that it is valid.
use Rattle.std.specs.Prelude.{◌≡◌, ◌<◌, ◌↔◌, ℕ, List, ◌++◌, false, Some, length, slice_get, flat_map}
use Rattle.std.specs.List.Sorted.{IsStrictlySortedBy}
use Rattle.std.specs.Ordering.{nat_cmp, ordering_then}
use Rattle.std.specs.declared.cmp.Ordering.{Ordering}
use Rattle.spec_expressions.specs.declared.global_use.GlobalUse.{GlobalUse}
use Rattle.spec_expressions.specs.declared.sampling.GlobalOrArgument.TheVariants.{Global}
use Rattle.ir_items.specs.judged.Plain.{PlainEntry, PlainModule}
use Rattle.typing_rules.specs.judged.Laws.{IsAmong}
use Rattle.spec_expressions.specs.judged.CallChains.{HasUse, HasPair}
use Rattle.spec_expressions.specs.judged.Summaries.{HasUseBit}
use Rattle.judgement.specs.judged.Lines.{buffers, is_own, entry_lines}

-- The uses of the module's global variables by all functions reachable from the entry point, one entry for each in order. The
-- entries of the entry point's payload and mesh output are arbitrary.
pub record AreUses (m : PlainModule) (e : PlainEntry) (uses : List GlobalUse) : Type 0 where
  pub many : length uses ≡ length m.globals
  pub exact : (g k : ℕ) → g < length m.globals → is_own e g ≡ false → HasUseBit uses g k ↔ HasUse m e.function g k

-- ordered by the image, and then by the sampler
abbrev pub pair_cmp : ℕ × ℕ → ℕ × ℕ → Ordering
pair_cmp p q = ordering_then (nat_cmp p.0 q.0) (nat_cmp p.1 q.1)

-- The global images and samplers that are sampled together in a function reachable from the entry point, each pair once, in
-- order.
pub record ArePairs (m : PlainModule) (e : PlainEntry) (pairs : List (ℕ × ℕ)) : Type 0 where
  pub ordered : IsStrictlySortedBy pair_cmp pairs
  pub exact : (image sampler : ℕ) → IsAmong (image, sampler) pairs ↔ HasPair m e.function (Global image, Global sampler)

-- The lines are those of the entry point at this index.
pub record IsEntryReport (m : PlainModule) (number : ℕ) (e : PlainEntry) (lines : List ℕ) : Type 0 where
  pub uses : List GlobalUse
  pub pairs : List (ℕ × ℕ)
  pub are_uses : AreUses m e uses
  pub are_pairs : ArePairs m e pairs
  pub told : lines ≡ entry_lines number e uses pairs

-- The lines of each entry point, in order.
pub record AreEntryReports (m : PlainModule) (entries : List (List ℕ)) : Type 0 where
  pub many : length entries ≡ length m.entries
  pub each : (number : ℕ) (e : PlainEntry) (lines : List ℕ) → slice_get m.entries number ≡ Some e → slice_get entries number ≡ Some lines → IsEntryReport m number e lines

-- The text lists the module's buffers, and then its entry points.
pub record IsReport (m : PlainModule) (text : List ℕ) : Type 0 where
  pub entries : List (List ℕ)
  pub are_entries : AreEntryReports m entries
  pub told : text ≡ buffers m ++ flat_map (λ lines. lines) entries
