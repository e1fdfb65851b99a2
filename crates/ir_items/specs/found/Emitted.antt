-- The `Emit` statements that an emitter returns.
use Rattle.std.specs.Prelude.{◌↔◌, ◌⊎◌, ℕ, ◌<◌, ◌≤◌, List, [], ◌∷◌, length, map, slice_range, if◌then◌else◌, ◌==◌, Option, Some, None}
use Rattle.std.specs.List.{All, AllPairs, cons_option}
use Rattle.ir_blocks.specs.IrArena.{Span, span_of_entry, total_span}
use Rattle.ir_blocks.specs.IrTypes.{Expression}
use Rattle.ir_blocks.specs.judged.Plain.{PlainStatement, emit}

-- the `Emit` statement and the span of the expressions appended since there were `start`, if any
abbrev pub emitted : ℕ → List (Expression × Span) → Option (PlainStatement × Span)
emitted start entries =
    if start == length entries then None else Some (emit start (length entries), total_span (map span_of_entry (slice_range entries start (length entries))))

-- A run of an emitter: the expressions at its start, and those at its finish.
pub record Run : Type 0 where
  pub started : List (Expression × Span)
  pub finished : List (Expression × Span)

-- the result of the call of `finish`
abbrev pub answer_of : Run → Option (PlainStatement × Span)
answer_of run = emitted (length run.started) run.finished

-- the runs follow one another, on expressions that are only appended, at least `count` at first
abbrev pub AreRuns : ℕ → List Run → Type 0
AreRuns count [] = Unit {0}
AreRuns count (run ∷ runs) = (count ≤ length run.started) × ((length run.started ≤ length run.finished) × AreRuns (length run.finished) runs)

-- the bounds of the range of an `Emit`
abbrev pub range_of : Option (PlainStatement × Span) → Option (ℕ × ℕ)
range_of (Some (emit first end, span)) = Some (first, end)
range_of _ = None

-- the ranges of the `Emit` statements
abbrev pub ranges_of : List (Option (PlainStatement × Span)) → List (ℕ × ℕ)
ranges_of [] = []
ranges_of (answer ∷ answers) = cons_option (range_of answer) (ranges_of answers)

-- the expression was appended during one of the runs
abbrev pub IsAppended : List Run → ℕ → Type 0
IsAppended [] e = ⊥
IsAppended (run ∷ runs) e = ((length run.started ≤ e) × (e < length run.finished)) ⊎ IsAppended runs e

-- the expression is in one of the ranges
abbrev pub Holds : List (ℕ × ℕ) → ℕ → Type 0
Holds [] e = ⊥
Holds (range ∷ ranges) e = ((range.0 ≤ e) × (e < range.1)) ⊎ Holds ranges e

-- The ranges are not empty, are disjoint and ascending, and contain exactly the expressions appended during the runs.
pub record ArePartition (runs : List Run) (ranges : List (ℕ × ℕ)) : Type 0 where
  pub apart : AllPairs (λ r s. r.1 ≤ s.0) ranges
  pub filled : All (λ r. r.0 < r.1) ranges
  pub hold : (e : ℕ) → IsAppended runs e ↔ Holds ranges e

-- The `Emit` statements that an emitter returns: their ranges are a partition of the appended expressions.
abbrev pub Partition : Type 0
Partition = (count : ℕ) (runs : List Run) → AreRuns count runs → ArePartition runs (ranges_of (map answer_of runs))
