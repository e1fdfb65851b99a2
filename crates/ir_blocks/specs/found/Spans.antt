-- The spans in a body: those of a block's statements, and those of nested blocks.
use Rattle.std.specs.Prelude.{◌≡◌, ℕ, zero, suc, List, [], ◌∷◌, Option, Some, None}
use Rattle.ir_types.specs.IrArena.{Span}
use Rattle.ir_blocks.specs.judged.Plain.{PlainStatement, PlainBlock}
use Rattle.ir_blocks.specs.judged.Shapes.{Part, inner, accepting, rejecting, case_at, loop_body, loop_continuing}
use Rattle.ir_blocks.specs.judged.Places.{Place, here, later, inside, condition, OccursAt}

mutual
  -- a block's own spans in order, and the spans nested in its statements
  pub data BlockSpans : Type 0 where
    spans : (own : List Span) → (within : InnerSpans) → BlockSpans

  -- the spans nested in each statement of a block, in order
  pub data InnerSpans : Type 0 where
    no_statement : InnerSpans
    in_next : StatementSpans → InnerSpans → InnerSpans

  -- the spans of the nested blocks of a statement
  pub data StatementSpans : Type 0 where
    no_block : StatementSpans
    in_block : BlockSpans → StatementSpans
    in_sides : (accept reject : BlockSpans) → StatementSpans
    in_cases : CaseSpans → StatementSpans
    in_loop : (body continuing : BlockSpans) → StatementSpans

  -- the spans of each case's block, in order
  pub data CaseSpans : Type 0 where
    no_more : CaseSpans
    in_case : BlockSpans → CaseSpans → CaseSpans

-- a block without statements has none
abbrev pub no_spans : BlockSpans
no_spans = spans [] no_statement

abbrev pub own_spans : BlockSpans → List Span
own_spans (spans own within) = own

abbrev pub within_spans : BlockSpans → InnerSpans
within_spans (spans own within) = within

-- the spans nested in the first statement
abbrev pub first_of : InnerSpans → StatementSpans
first_of no_statement = no_block
first_of (in_next s rest) = s

abbrev pub first_within : BlockSpans → StatementSpans
first_within (spans own within) = first_of within

-- the span of the first statement, and those of the statements after it
abbrev pub first_span : BlockSpans → Option Span
first_span (spans [] within) = None
first_span (spans (x ∷ own) within) = Some x

abbrev pub tail_of : {X : Type 0} → List X → List X
tail_of [] = []
tail_of (x ∷ xs) = xs

abbrev pub tail_within : InnerSpans → InnerSpans
tail_within no_statement = no_statement
tail_within (in_next s rest) = rest

abbrev pub after_first : BlockSpans → BlockSpans
after_first (spans own within) = spans (tail_of own) (tail_within within)

abbrev pub case_spans : CaseSpans → ℕ → BlockSpans
case_spans no_more k = no_spans
case_spans (in_case b rest) zero = b
case_spans (in_case b rest) (suc k) = case_spans rest k

-- the spans of the nested block at a part, empty if there is none
abbrev pub spans_in : StatementSpans → Part → BlockSpans
spans_in (in_block b) inner = b
spans_in (in_sides accept reject) accepting = accept
spans_in (in_sides accept reject) rejecting = reject
spans_in (in_cases cases) (case_at k) = case_spans cases k
spans_in (in_loop body continuing) loop_body = body
spans_in (in_loop body continuing) loop_continuing = continuing
spans_in _ _ = no_spans

-- the span stored for a place, if any
abbrev pub span_at : Place → BlockSpans → Option Span
span_at here b = first_span b
span_at (later p) b = span_at p (after_first b)
span_at (inside part p) b = span_at p (spans_in (first_within b) part)
span_at condition b = None

-- The spans are in step with the body at every depth: each place of a statement has a span, and no
-- other place has one.
pub record InStep (b : PlainBlock) (kept : BlockSpans) : Type 0 where
  pub spanned : (p : Place) (s : PlainStatement) → OccursAt b p s → (x : Span) × (span_at p kept ≡ Some x)
  pub only : (p : Place) (x : Span) → span_at p kept ≡ Some x → (s : PlainStatement) × OccursAt b p s
