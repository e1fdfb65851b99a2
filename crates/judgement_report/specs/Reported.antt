-- The parts of a `ModuleInfo` that the report reads.
use Rattle.std.specs.Prelude.{◌≡◌, ◌<◌, ◌↔◌, ◌++◌, ℕ, List, None, Option, Some, length, slice_get, filter_map, flat_map}
use Rattle.std.specs.List.Sorted.{IsStrictlySortedBy}
use Rattle.spec_expressions.specs.judged.Pairs.{SamplingPair}
use Rattle.spec_expressions.specs.declared.sampling.GlobalOrArgument.{GlobalOrArgument}
use Rattle.spec_expressions.specs.declared.sampling.GlobalOrArgument.TheVariants.{Argument, Global}
use Rattle.typing_infos.specs.declared.function_info.FunctionInfo.{FunctionInfo}
use Rattle.ir_items.specs.judged.GlobalPlain.{PlainGlobal}
use Rattle.ir_items.specs.judged.Plain.{PlainEntry, PlainModule}
use Rattle.typing_infos.specs.declared.info.ModuleInfo.{ModuleInfo}
use Rattle.typing_rules.specs.judged.Laws.{IsAmong}
use Rattle.spec_expressions.specs.judged.CallChains.{HasPair}
use Rattle.judgement.specs.judged.Lines.{pair_line, entry_lines}
use Rattle.judgement.specs.judged.Reports.{AreUses, pair_cmp, IsEntryReport}
use Rattle.typing_forms.specs.judged.Order.{TypesGoBack}
use Rattle.typing_layout.specs.found.Held.{AreLayouts}

-- the indices of two global variables
abbrev pub numbers_in : GlobalOrArgument → GlobalOrArgument → Option (ℕ × ℕ)
numbers_in (Global image) (Global sampler) = Some (image, sampler)
numbers_in (Global image) (Argument sampler) = None
numbers_in (Argument image) sampler = None

-- of an image and a sampler, if both are global variables
abbrev pub numbers_of : SamplingPair → Option (ℕ × ℕ)
numbers_of p = numbers_in p.0 p.1

-- The uses of all global variables by functions reachable from the entry point, its own payload and mesh output aside, and the
-- pairs of global variables that are sampled there.
pub record IsEntryInfo (m : PlainModule) (e : PlainEntry) (info : FunctionInfo) : Type 0 where
  pub uses : AreUses m e info.uses.items
  pub pairs : (image sampler : ℕ) → IsAmong (Global image, Global sampler) info.sampling.items ↔ HasPair m e.function (Global image, Global sampler)

-- The layouts are those of the module's types, which reference only earlier types.
pub record AreLaid (m : PlainModule) (info : ModuleInfo) : Type 0 where
  pub back : TypesGoBack m.types
  pub layouts : AreLayouts m.types info.layouter
  pub all : length info.layouter ≡ length m.types

-- The types of global variables exist, the layouts are those of the types, and each entry point has the info of the functions
-- reachable from it.
pub record IsReported (m : PlainModule) (info : ModuleInfo) : Type 0 where
  pub typed : (number : ℕ) (v : PlainGlobal) → slice_get m.globals number ≡ Some v → v.ty < length m.types
  pub laid : AreLaid m info
  pub many : length info.entry_points.items ≡ length m.entries
  pub each : (number : ℕ) (e : PlainEntry) (i : FunctionInfo) → slice_get m.entries number ≡ Some e → slice_get info.entry_points.items number ≡ Some i → IsEntryInfo m e i

-- ---- the output

-- lines with a property are appended to a text
pub record Tells (P : List ℕ → Type 0) (before after : List ℕ) : Type 0 where
  pub lines : List ℕ
  pub behind : after ≡ before ++ lines
  pub holds : P lines

-- the lines of the pairs of global variables among these, in order, each pair once
pub record ArePairLines (given : List SamplingPair) (lines : List ℕ) : Type 0 where
  pub pairs : List (ℕ × ℕ)
  pub ordered : IsStrictlySortedBy pair_cmp pairs
  pub same : (p : ℕ × ℕ) → IsAmong p pairs ↔ IsAmong p (filter_map numbers_of given)
  pub told : lines ≡ flat_map pair_line pairs

-- the lines of an entry point, given its info
pub record AreLinesOf (number : ℕ) (e : PlainEntry) (info : FunctionInfo) (lines : List ℕ) : Type 0 where
  pub pairs : List (ℕ × ℕ)
  pub ordered : IsStrictlySortedBy pair_cmp pairs
  pub same : (p : ℕ × ℕ) → IsAmong p pairs ↔ IsAmong p (filter_map numbers_of info.sampling.items)
  pub told : lines ≡ entry_lines number e info.uses.items pairs

-- the lines of the first `n` entry points, in order
pub record AreEntryLines (m : PlainModule) (count : ℕ) (lines : List ℕ) : Type 0 where
  pub entries : List (List ℕ)
  pub many : length entries ≡ count
  pub each : (number : ℕ) (e : PlainEntry) (told : List ℕ) → slice_get m.entries number ≡ Some e → slice_get entries number ≡ Some told → IsEntryReport m number e told
  pub told : lines ≡ flat_map (λ told. told) entries
