-- When the lines of a report list a global variable, and a sampled pair.
use Rattle.std.specs.Prelude.{◌≡◌, ◌⊎◌, ◌<◌, ◌++◌, ℕ, List, [], length, IsTrue, Some, codes, decimal, slice_index_or, slice_get}
use Rattle.spec_expressions.specs.declared.global_use.GlobalUse.{GlobalUse}
use Rattle.ir_items.specs.judged.GlobalPlain.{PlainGlobal}
use Rattle.ir_items.specs.judged.Plain.{PlainEntry, PlainModule}
use Rattle.typing_rules.specs.judged.Laws.{IsAmong}
use Rattle.spec_expressions.specs.judged.Summaries.{no_use}
use Rattle.judgement.specs.judged.BufferLaws.{buffer_type}
use Rattle.judgement.specs.judged.Lines.{own_line, is_own, is_used, use_words, pair_line, is_buffer, buffer_line}
use Rattle.judgement.specs.judged.Reports.{IsEntryReport, IsReport}
use Rattle.typing_layout.specs.judged.Layout.{size, alignment}
use Rattle.spec_runs.specs.judged.Events.{Event, named, sampled}

-- The lines occur in the text as whole lines: what precedes them is empty, or ends with a line feed.
pub record HasLines (lines text : List ℕ) : Type 0 where
  pub before : List ℕ
  pub behind : List ℕ
  pub whole : (before ≡ []) ⊎ ((front : List ℕ) × (before ≡ front ++ codes "\n"))
  pub is : text ≡ before ++ (lines ++ behind)

-- how a line lists a global variable with these uses
abbrev pub use_line : (g : ℕ) → GlobalUse → List ℕ
use_line g kinds = codes "global " ++ decimal g ++ use_words kinds ++ codes "\n"

-- A line lists the global variable: as the entry point's payload or mesh output, or by its uses.
pub data ReportsGlobal (lines : List ℕ) (g : ℕ) : Type 0 where
  as_payload : HasLines (own_line (codes "payload") (Some g)) lines → ReportsGlobal lines g
  as_mesh : HasLines (own_line (codes "mesh") (Some g)) lines → ReportsGlobal lines g
  as_used : (kinds : GlobalUse) → IsTrue (is_used kinds) → HasLines (use_line g kinds) lines → ReportsGlobal lines g

-- each referenced global variable has a line
abbrev pub NamedIsReported : (lines : List ℕ) → Event → Type 0
NamedIsReported lines (named g) = ReportsGlobal lines g
NamedIsReported lines _ = Unit {0}

-- each sampled pair of an image and a sampler has a line
abbrev pub SampledIsReported : (lines : List ℕ) → Event → Type 0
SampledIsReported lines (sampled image sampler) = HasLines (pair_line (image, sampler)) lines
SampledIsReported lines _ = Unit {0}

-- ---- laws of the lines of a report

-- a global variable that is the entry point's own or has a use has a line, and so has each sampled pair
abbrev pub LinesStand : Type 0
LinesStand = (m : PlainModule) (number : ℕ) (e : PlainEntry) (lines : List ℕ) (r : IsEntryReport m number e lines)
    → ((g : ℕ) → g < length m.globals → IsTrue (is_own e g) ⊎ IsTrue (is_used (slice_index_or r.uses g no_use)) → ReportsGlobal lines g)
    × ((image sampler : ℕ) → IsAmong (image, sampler) r.pairs → HasLines (pair_line (image, sampler)) lines)

-- The lines of the entry point at this index, which are in the report.
pub record EntryIsReported (m : PlainModule) (report : List ℕ) (number : ℕ) (e : PlainEntry) : Type 0 where
  pub lines : List ℕ
  pub are : IsEntryReport m number e lines
  pub stand : HasLines lines report

-- each entry point has its lines in the report
abbrev pub EntriesAreReported : Type 0
EntriesAreReported = (m : PlainModule) (report : List ℕ) → IsReport m report → (number : ℕ) (e : PlainEntry) → slice_get m.entries number ≡ Some e → EntryIsReported m report number e

-- each buffer has its line in the report, with its size and its alignment
abbrev pub BuffersAreReported : Type 0
BuffersAreReported =
    (m : PlainModule) (report : List ℕ) → IsReport m report → (number : ℕ) (v : PlainGlobal) → slice_get m.globals number ≡ Some v → IsTrue (is_buffer v.space)
    → HasLines (buffer_line number (size (buffer_type m.types v)) (alignment (buffer_type m.types v))) report
