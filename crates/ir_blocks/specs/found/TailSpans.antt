-- The spans of a body completed with returns.
use Rattle.std.specs.Prelude.{◌≡◌, Bool, true, false, if◌then◌else◌, List, [], ◌∷◌, ◌++◌, take, Some}
use Rattle.ir_types.specs.IrArena.{Span, undefined_span}
use Rattle.ir_blocks.specs.judged.Plain.{PlainStatement, block, if_, switch, PlainBlock, stop, next, PlainCases, no_case, case}
use Rattle.ir_blocks.specs.judged.Shapes.{shape_of, inner, accepting, rejecting}
use Rattle.ir_blocks.specs.judged.Places.{Place, OccursAt}
use Rattle.ir_blocks.specs.found.Spans.{BlockSpans, spans, InnerSpans, no_statement, in_next, StatementSpans, no_block, in_block, in_sides, in_cases, CaseSpans, no_more, in_case, no_spans, own_spans, within_spans, first_within, after_first, spans_in, span_at, InStep}
use Rattle.ir_blocks.specs.found.View.{PlainCase}
use Rattle.ir_blocks.specs.judged.Tails.{IsOpenEnd, goes_on, completed}

-- `after` are the spans of c, the completion of b with returns, if `before` are those of b: each statement of b
-- keeps its span at its place, each added return has the undefined span, and there is no other span.
pub record SpansCompleted (b c : PlainBlock) (before after : BlockSpans) : Type 0 where
  pub kept : (p : Place) (s : PlainStatement) → OccursAt b p s → span_at p after ≡ span_at p before
  pub added : (p : Place) → IsOpenEnd b p → span_at p after ≡ Some undefined_span
  pub in_step : InStep c after

-- ---- the spans of the completed body, as a function

-- the span of the added return, if control continues
abbrev pub ending_span : Bool → List Span
ending_span true = undefined_span ∷ []
ending_span false = []

abbrev pub ending_within : Bool → InnerSpans
ending_within true = in_next no_block no_statement
ending_within false = no_statement

-- the span of a block's first statement and the spans nested in it, put before the spans of the rest
abbrev pub with_first : BlockSpans → BlockSpans → BlockSpans
with_first kept rest = spans (take 1 (own_spans kept) ++ own_spans rest) (in_next (first_within kept) (within_spans rest))

abbrev pub cases_within : StatementSpans → CaseSpans
cases_within (in_cases cases) = cases
cases_within _ = no_more

abbrev pub first_case : CaseSpans → BlockSpans
first_case no_more = no_spans
first_case (in_case b rest) = b

abbrev pub other_cases : CaseSpans → CaseSpans
other_cases no_more = no_more
other_cases (in_case b rest) = rest

abbrev mutual
  pub completed_spans : PlainBlock → BlockSpans → BlockSpans
  completed_spans stop kept = spans (own_spans kept ++ undefined_span ∷ []) (in_next no_block no_statement)
  completed_spans (next s stop) kept =
      spans (own_spans kept ++ ending_span (goes_on (shape_of s))) (in_next (finished_spans s (first_within kept)) (ending_within (goes_on (shape_of s))))
  completed_spans (next s (next t rest)) kept = with_first kept (completed_spans (next t rest) (after_first kept))

  -- of the last statement of a tail block, whose tail blocks are completed
  pub finished_spans : PlainStatement → StatementSpans → StatementSpans
  finished_spans (block b) kept = in_block (completed_spans b (spans_in kept inner))
  finished_spans (if_ condition accept reject) kept = in_sides (completed_spans accept (spans_in kept accepting)) (completed_spans reject (spans_in kept rejecting))
  finished_spans (switch selector cases) kept = in_cases (finished_case_spans cases (cases_within kept))
  finished_spans _ kept = kept

  pub finished_case_spans : PlainCases → CaseSpans → CaseSpans
  finished_case_spans no_case kept = no_more
  finished_case_spans (case value body falls rest) kept =
      in_case (if falls then first_case kept else completed_spans body (first_case kept)) (finished_case_spans rest (other_cases kept))

-- the same for one case
abbrev pub finished_case_body : PlainCase → BlockSpans → BlockSpans
finished_case_body c kept = if c.falls then kept else completed_spans c.body kept

-- if the spans are in step with the body, this function computes the spans of the completed body
abbrev pub SpansCompletedByTails : Type 0
SpansCompletedByTails = (b : PlainBlock) (kept : BlockSpans) → InStep b kept → SpansCompleted b (completed b) kept (completed_spans b kept)
