-- The spans of the completed body, as the code computes them.
use Rattle.std.proofs.Common.{◌≡◌, List, [], ◌∷◌, ◌++◌, map, take, length, Bool, true, false, refl, sym, ap, ◌∙◌, rules}
use Rattle.std.proofs.lemmas.List.{map-append, length-map, append-nil, append_assoc}
use Rattle.ir_types.specs.IrArena.{Span, undefined_span}
use Rattle.ir_blocks.specs.judged.Shapes.{shape_of}
use Rattle.ir_blocks.specs.found.Spans.{BlockSpans, spans, InnerSpans, in_next, StatementSpans, no_block, tail_of}
use Rattle.ir_blocks.specs.found.Padded.{padded}
use Rattle.ir_blocks.specs.judged.Tails.{goes_on}
use Rattle.ir_blocks.specs.found.TailSpans.{ending_span, ending_within, with_first, completed_spans, finished_spans}
use Rattle.ir_blocks.specs.found.View.{block_of, within_of, spans_over, statement_view, block_view, statement_spans, block_spans, statements_of, spans_of}
use Rattle.ir_blocks.specs.declared.statements.Statement.{Statement, the_lemmas}
use Rattle.ir_blocks.specs.declared.statements.Block.{Block, out-Block}
use Rattle.ir_blocks.proofs.TerminatorLemmas.{block_view-statements}

pub block_spans-over : (b : Block) → block_spans b ≡ spans_over (out-Block b).span_info (map statement_spans (statements_of b))
block_spans-over b = search (rules, the_lemmas)

pub spans_over-lists : (kept : List Span) (xs : List Statement) → spans_over kept (map statement_spans xs) ≡ spans (padded (length xs) kept) (within_of (map statement_spans xs))
spans_over-lists kept xs = ap (λ n. spans (padded n kept) (within_of (map statement_spans xs))) (length-map xs statement_spans)

pub block_spans-lists : (b : Block) → block_spans b ≡ spans (spans_of b) (within_of (map statement_spans (statements_of b)))
block_spans-lists b = block_spans-over b ∙ spans_over-lists (out-Block b).span_info (statements_of b)

abbrev endings : Bool → List StatementSpans
endings true = no_block ∷ []
endings false = []

first_and_rest : (own more : List Span) → take 1 own ++ (tail_of own ++ more) ≡ own ++ more
first_and_rest [] more = refl
first_and_rest (x ∷ own) more = refl

behind : (own more : List Span) (s : StatementSpans) (rest after : InnerSpans) (found : BlockSpans) → found ≡ spans (tail_of own ++ more) after → with_first (spans own (in_next s rest)) found ≡ spans (own ++ more) (in_next s after)
behind own more s rest after found e = ap (with_first (spans own (in_next s rest))) e ∙ ap (λ o. spans o (in_next s after)) (first_and_rest own more)

completed_lists : (on : Bool) (own : List Span) (xs : List Statement) (x : Statement) → goes_on (shape_of (statement_view x)) ≡ on
    → completed_spans (block_of (map statement_view xs ++ statement_view x ∷ [])) (spans own (within_of (map statement_spans xs ++ statement_spans x ∷ [])))
    ≡ spans (own ++ ending_span on) (within_of (map statement_spans xs ++ finished_spans (statement_view x) (statement_spans x) ∷ endings on))
completed_lists true own [] x e = ap (λ g. spans (own ++ ending_span g) (in_next (finished_spans (statement_view x) (statement_spans x)) (ending_within g))) e
completed_lists false own [] x e = ap (λ g. spans (own ++ ending_span g) (in_next (finished_spans (statement_view x) (statement_spans x)) (ending_within g))) e
completed_lists on own (y ∷ []) x e = behind own (ending_span on) (statement_spans y) (within_of (statement_spans x ∷ [])) _ _ (completed_lists on (tail_of own) [] x e)
completed_lists on own (y ∷ z ∷ zs) x e = behind own (ending_span on) (statement_spans y) (within_of (map statement_spans (z ∷ zs) ++ statement_spans x ∷ [])) _ _ (completed_lists on (tail_of own) (z ∷ zs) x e)

-- the spans of a block with these lists
lists : (b : Block) (prefix : List Statement) (last : Statement) → statements_of b ≡ prefix ++ last ∷ []
    → completed_spans (block_view b) (block_spans b)
    ≡ completed_spans (block_of (map statement_view prefix ++ statement_view last ∷ [])) (spans (spans_of b) (within_of (map statement_spans prefix ++ statement_spans last ∷ [])))
lists b prefix last parts =
    let views : block_view b ≡ block_of (map statement_view prefix ++ statement_view last ∷ []) =
    block_view-statements b ∙ (ap (λ z. block_of (map statement_view z)) parts ∙ ap block_of (map-append statement_view prefix (last ∷ []))) in
    let within : block_spans b ≡ spans (spans_of b) (within_of (map statement_spans prefix ++ statement_spans last ∷ [])) =
    block_spans-lists b ∙ (ap (λ z. spans (spans_of b) (within_of (map statement_spans z))) parts ∙ ap (λ z. spans (spans_of b) (within_of z)) (map-append statement_spans prefix (last ∷ []))) in
    λ i. completed_spans (views i) (within i)

pub spans_stay : (b : Block) (prefix body items : List Statement) (last whole : Statement) (kept : List Span) → statements_of b ≡ prefix ++ last ∷ [] → map statement_spans body ≡ map statement_spans prefix
    → statement_spans whole ≡ finished_spans (statement_view last) (statement_spans last) → goes_on (shape_of (statement_view last)) ≡ false → items ≡ body ++ whole ∷ [] → kept ≡ spans_of b
    → spans kept (within_of (map statement_spans items)) ≡ completed_spans (block_view b) (block_spans b)
spans_stay b prefix body items last whole kept parts copies end on made same =
    let left : map statement_spans items ≡ map statement_spans prefix ++ finished_spans (statement_view last) (statement_spans last) ∷ [] =
    ap (map statement_spans) made ∙ (map-append statement_spans body (whole ∷ []) ∙ (ap (λ z. z ++ statement_spans whole ∷ []) copies ∙ ap (λ z. map statement_spans prefix ++ z ∷ []) end)) in
    let own : kept ≡ spans_of b ++ [] = same ∙ sym (append-nil (spans_of b)) in
    let both : spans kept (within_of (map statement_spans items)) ≡ spans (spans_of b ++ []) (within_of (map statement_spans prefix ++ finished_spans (statement_view last) (statement_spans last) ∷ [])) =
    (λ i. spans (own i) (within_of (left i))) in
    both ∙ (sym (completed_lists false (spans_of b) prefix last on) ∙ sym (lists b prefix last parts))

pub spans_added : (b : Block) (prefix body more items : List Statement) (last whole : Statement) (kept : List Span) → statements_of b ≡ prefix ++ last ∷ [] → map statement_spans body ≡ map statement_spans prefix
    → statement_spans whole ≡ finished_spans (statement_view last) (statement_spans last) → goes_on (shape_of (statement_view last)) ≡ true → more ≡ body ++ whole ∷ []
    → map statement_spans items ≡ map statement_spans more ++ no_block ∷ [] → kept ≡ spans_of b ++ undefined_span ∷ []
    → spans kept (within_of (map statement_spans items)) ≡ completed_spans (block_view b) (block_spans b)
spans_added b prefix body more items last whole kept parts copies end on made all same =
    let F : List StatementSpans = map statement_spans prefix in
    let w : StatementSpans = finished_spans (statement_view last) (statement_spans last) in
    let more_is : map statement_spans more ≡ F ++ w ∷ [] =
    ap (map statement_spans) made ∙ (map-append statement_spans body (whole ∷ []) ∙ (ap (λ z. z ++ statement_spans whole ∷ []) copies ∙ ap (λ z. F ++ z ∷ []) end)) in
    let left : map statement_spans items ≡ F ++ w ∷ no_block ∷ [] =
    all ∙ (ap (λ z. z ++ no_block ∷ []) more_is ∙ append_assoc F (w ∷ []) (no_block ∷ [])) in
    let both : spans kept (within_of (map statement_spans items)) ≡ spans (spans_of b ++ undefined_span ∷ []) (within_of (F ++ w ∷ no_block ∷ [])) =
    (λ i. spans (same i) (within_of (left i))) in
    both ∙ (sym (completed_lists true (spans_of b) prefix last on) ∙ sym (lists b prefix last parts))
