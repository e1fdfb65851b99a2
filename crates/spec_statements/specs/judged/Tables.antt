-- The expressions that a statement uses that must be in scope, and those that it introduces.
use Rattle.std.specs.Prelude.{ℕ, false, List, ◌∷◌, Some, option_to_list, Option, None, []}
use Rattle.ir_arena.specs.judged.Handles.{handles_between}
use Rattle.ir_blocks.specs.judged.Places.{Spot, nothing, statement, loop_condition}
use Rattle.ir_blocks.specs.judged.Plain.{PlainStatement}
use Rattle.spec_expressions.specs.judged.StatementNames.{statement_range, statement_result}
use Rattle.spec_expressions.specs.judged.Operands.{given, looked_up}
use Rattle.spec_expressions.specs.judged.Kinds.{statement_slots, Emitted}

-- ---- uses

-- a loop's condition is used at its own place, after the continuing block
abbrev pub statement_checked : PlainStatement → List ℕ
statement_checked s = looked_up false (statement_slots s)

abbrev pub checked_at : Spot → List ℕ
checked_at spot = elim spot [ nothing ↦ [] | statement s ↦ statement_checked s | loop_condition break_if ↦ given (break_if ∷ []) ]

-- ---- introductions

abbrev pub introduced_by : Option Emitted → (result : Option ℕ) → List ℕ
introduced_by o result = elim o [ Some range ↦ handles_between (range.first, range.end) | None ↦ option_to_list result ]

-- emitted expressions, and the result expression
abbrev pub introduced : PlainStatement → List ℕ
introduced s = introduced_by (statement_range s) (statement_result s)

abbrev pub introduced_at : Spot → List ℕ
introduced_at spot = elim spot [ nothing ↦ [] | statement s ↦ introduced s | loop_condition break_if ↦ [] ]
