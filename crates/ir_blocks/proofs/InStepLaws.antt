-- The spans of a block are in step with it at every depth.
use Rattle.std.proofs.Common.{◌≡◌, ℕ, zero, suc, List, [], ◌∷◌, Option, Some, refl, sym, subst, map, length}
use Rattle.ir_types.specs.IrArena.{Span}
use Rattle.ir_blocks.specs.judged.Plain.{PlainStatement, PlainBlock, stop}
use Rattle.ir_blocks.specs.judged.Shapes.{shape_of, Part, inner, accepting, rejecting, case_at, loop_body, loop_continuing, case_body, part_of}
use Rattle.ir_blocks.specs.judged.Places.{Place, here, later, inside, condition, OccursAt}
use Rattle.ir_blocks.specs.found.Spans.{BlockSpans, spans, StatementSpans, no_spans, tail_of, case_spans, spans_in, span_at, InStep}
use Rattle.ir_blocks.specs.found.Padded.{first_kept, padded}
use Rattle.ir_blocks.specs.found.View.{block_of, within_of, cases_of, case_spans_of, PlainCase, statement_step, block_step, case_step, statement_spans_step, block_spans_step, case_spans_step, spans_over, statement_view, block_view, case_view, statement_spans, block_spans, case_block_spans, statements_of, AlwaysInStep}
use Rattle.ir_blocks.specs.declared.statements.Statement.{Statement}
use Rattle.ir_blocks.specs.declared.statements.Statement.TheOpen.{Statement-F, Block-F, SwitchCase-F}
use Rattle.ir_blocks.specs.declared.statements.Statement.TheFolds.{map-Statement, fold-roll-Statement, fold-roll-SwitchCase, ind-Block}
use Rattle.ir_blocks.specs.declared.statements.Statement.TheViews.{roll-Statement, roll-Block, roll-SwitchCase}
use Rattle.ir_blocks.specs.declared.statements.Block.{Block}
use Rattle.ir_blocks.specs.declared.statements.SwitchCase.{SwitchCase}
use Rattle.ir_blocks.proofs.PaddedLemmas.{length-padded}
use Rattle.ir_blocks.proofs.RoomLemmas.{block_view-roll, block_spans-roll}
use Rattle.ir_blocks.proofs.SpanLaws.{no_span}
use Rattle.ir_blocks.proofs.TailLaws.{none_in_stop}

-- a block, each nested block of a statement, and that of a case are in step
abbrev InStepBlock : Block → Type 0
InStepBlock b = InStep (block_view b) (block_spans b)

abbrev IsWithin : PlainStatement → StatementSpans → Type 0
IsWithin s kept = (part : Part) → InStep (part_of (shape_of s) part) (spans_in kept part)

abbrev InStepWithin : Statement → Type 0
InStepWithin s = IsWithin (statement_view s) (statement_spans s)

abbrev InStepCase : SwitchCase → Type 0
InStepCase c = InStep (case_view c).body (case_block_spans c)

nothing_in_step : InStep stop no_spans
nothing_in_step = record { spanned = λ p s e. absurd (none_in_stop p s e); only = λ p x e. absurd (no_span p x e) }

-- ---- the statements of a block

before_rest : (x : Statement) (xs : List Statement) (y : Span) (own : List Span) → InStepWithin x → InStep (block_of (map statement_view xs)) (spans own (within_of (map statement_spans xs)))
    → InStep (block_of (map statement_view (x ∷ xs))) (spans (y ∷ own) (within_of (map statement_spans (x ∷ xs))))
before_rest x xs y own first rest = record { spanned = spanned; only = only_there }
  where
    spanned : (p : Place) (s : PlainStatement) → OccursAt (block_of (map statement_view (x ∷ xs))) p s → (z : Span) × (span_at p (spans (y ∷ own) (within_of (map statement_spans (x ∷ xs)))) ≡ Some z)
    spanned here s e = (y, refl)
    spanned (later p) s e = rest.spanned p s e
    spanned (inside part p) s e = (first part).spanned p s e
    spanned condition s e = let z = e in cc

    only_there : (p : Place) (z : Span) → span_at p (spans (y ∷ own) (within_of (map statement_spans (x ∷ xs)))) ≡ Some z → (s : PlainStatement) × OccursAt (block_of (map statement_view (x ∷ xs))) p s
    only_there here z e = (statement_view x, refl)
    only_there (later p) z e = rest.only p z e
    only_there (inside part p) z e = (first part).only p z e
    only_there condition z e = cc

lists_in_step : (es : List ((s : Statement) × InStepWithin s)) (kept : List Span)
    → InStep (block_of (map statement_view (map (λ e. e.0) es))) (spans_over kept (map statement_spans (map (λ e. e.0) es)))
lists_in_step [] kept = nothing_in_step
lists_in_step (e ∷ es) kept =
    before_rest e.0 (map (λ e. e.0) es) (first_kept kept) (padded (length (map statement_spans (map (λ e. e.0) es))) (tail_of kept)) e.1 (lists_in_step es (tail_of kept))

-- ---- the parts of a statement

cases_in_step : (es : List ((c : SwitchCase) × InStepCase c)) (k : ℕ) → InStep (case_body (cases_of (map case_view (map (λ e. e.0) es))) k) (case_spans (case_spans_of (map case_block_spans (map (λ e. e.0) es))) k)
cases_in_step [] k = nothing_in_step
cases_in_step (e ∷ es) zero = e.1
cases_in_step (e ∷ es) (suc k) = cases_in_step es k

-- a layer of a statement, as plain data and as spans
abbrev seen : Statement-F Statement Block SwitchCase → PlainStatement
seen x = statement_step (map-Statement Statement Block SwitchCase PlainStatement PlainBlock PlainCase statement_view block_view case_view x)

abbrev spanned_within : Statement-F Statement Block SwitchCase → StatementSpans
spanned_within x = statement_spans_step (map-Statement Statement Block SwitchCase StatementSpans BlockSpans BlockSpans statement_spans block_spans case_block_spans x)

abbrev Layer : Type 0
Layer = Statement-F ((s : Statement) × InStepWithin s) ((b : Block) × InStepBlock b) ((c : SwitchCase) × InStepCase c)

abbrev bare : Layer → Statement-F Statement Block SwitchCase
bare y = map-Statement ((s : Statement) × InStepWithin s) ((b : Block) × InStepBlock b) ((c : SwitchCase) × InStepCase c) Statement Block SwitchCase (λ e. e.0) (λ e. e.0) (λ e. e.0) y

parts_in_step : (y : Layer) → IsWithin (seen (bare y)) (spanned_within (bare y))
parts_in_step (Statement-F.Block b) inner = b.1
parts_in_step (Statement-F.Block b) _ = nothing_in_step
parts_in_step (Statement-F.If test accept reject) accepting = accept.1
parts_in_step (Statement-F.If test accept reject) rejecting = reject.1
parts_in_step (Statement-F.If test accept reject) _ = nothing_in_step
parts_in_step (Statement-F.Switch selector cases) (case_at k) = cases_in_step cases.items k
parts_in_step (Statement-F.Switch selector cases) _ = nothing_in_step
parts_in_step (Statement-F.Loop body continuing break_if) loop_body = body.1
parts_in_step (Statement-F.Loop body continuing break_if) loop_continuing = continuing.1
parts_in_step (Statement-F.Loop body continuing break_if) _ = nothing_in_step
parts_in_step _ part = nothing_in_step

within_by_layer : (x : Statement-F Statement Block SwitchCase) → IsWithin (seen x) (spanned_within x) → InStepWithin (roll-Statement x)
within_by_layer x h =
    subst (λ s. IsWithin s (statement_spans (roll-Statement x))) (sym (fold-roll-Statement PlainStatement PlainBlock PlainCase statement_step block_step case_step x))
    (subst (IsWithin (seen x)) (sym (fold-roll-Statement StatementSpans BlockSpans BlockSpans statement_spans_step block_spans_step case_spans_step x)) h)

block_by_layer : (x : Block-F Statement Block SwitchCase) → InStep (block_of (map statement_view x.body.items)) (spans_over x.span_info (map statement_spans x.body.items)) → InStepBlock (roll-Block x)
block_by_layer x h =
    subst (λ b. InStep b (block_spans (roll-Block x))) (sym (block_view-roll x.body x.span_info))
    (subst (InStep (block_of (map statement_view x.body.items))) (sym (block_spans-roll x.body x.span_info)) h)

case_by_layer : (x : SwitchCase-F Statement Block SwitchCase) → InStepBlock x.body → InStepCase (roll-SwitchCase x)
case_by_layer x h =
    subst (λ c. InStep (PlainCase.body c) (case_block_spans (roll-SwitchCase x))) (sym (fold-roll-SwitchCase PlainStatement PlainBlock PlainCase statement_step block_step case_step x))
    (subst (InStep (block_view x.body)) (sym (fold-roll-SwitchCase StatementSpans BlockSpans BlockSpans statement_spans_step block_spans_step case_spans_step x)) h)

in_step_throughout : (b : Block) → InStepBlock b
in_step_throughout = ind-Block InStepWithin InStepBlock InStepCase
    (λ x y is. within_by_layer x (subst (λ z. IsWithin (seen z) (spanned_within z)) is (parts_in_step y)))
    (λ x y is. block_by_layer x (subst (λ z. InStep (block_of (map statement_view z.body.items)) (spans_over z.span_info (map statement_spans z.body.items))) is (lists_in_step y.body.items y.span_info)))
    (λ x y is. case_by_layer x (subst (λ z. InStepBlock z.body) is y.body.1))

pub always_in_step : AlwaysInStep
always_in_step b = (length-padded (length (statements_of b)) _, in_step_throughout b)
