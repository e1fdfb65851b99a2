-- The spans of the completed body, by place.
use Rattle.std.proofs.Common.{◌≡◌, ◌⊎◌, inl, inr, ℕ, zero, suc, Bool, true, false, List, [], ◌∷◌, ◌++◌, Option, Some, None, refl, sym, ap, subst, ◌∙◌}
use Rattle.ir_types.specs.IrArena.{Span, undefined_span}
use Rattle.ir_blocks.specs.judged.Plain.{PlainStatement, block, if_, switch, return, PlainBlock, stop, next, PlainCases, no_case, case}
use Rattle.ir_blocks.specs.judged.Shapes.{shape_of, Part, inner, accepting, rejecting, case_at, loop_body, loop_continuing, case_body, part_of}
use Rattle.ir_blocks.specs.judged.Places.{Place, here, later, inside, condition, OccursAt}
use Rattle.ir_blocks.specs.found.Spans.{BlockSpans, spans, in_next, StatementSpans, no_block, in_block, in_sides, in_cases, in_loop, CaseSpans, no_more, in_case, no_spans, own_spans, within_spans, first_of, first_within, after_first, case_spans, spans_in, span_at, InStep}
use Rattle.ir_blocks.specs.judged.Tails.{IsCompleted, CaseEnds, IsTailPart, goes_on, IsOpenEnd, empty, after_last, further, in_tail, completed}
use Rattle.ir_blocks.specs.found.TailSpans.{SpansCompleted, ending_span, ending_within, cases_within, completed_spans, finished_spans, finished_case_spans}
use Rattle.ir_blocks.proofs.TailLaws.{added, kept, only, none_in_stop, is_completed}

-- ---- spans in step with a body

pub in_rest : {s : PlainStatement} {rest : PlainBlock} {own : BlockSpans} → InStep (next s rest) own → InStep rest (after_first own)
in_rest h = record { spanned = λ p t e. h.spanned (later p) t e; only = λ p x e. h.only (later p) x e }

pub in_part : {s : PlainStatement} {rest : PlainBlock} {own : BlockSpans} → InStep (next s rest) own → (part : Part) → InStep (part_of (shape_of s) part) (spans_in (first_within own) part)
in_part h part = record { spanned = λ p t e. h.spanned (inside part p) t e; only = λ p x e. h.only (inside part p) x e }

pub no_span : (p : Place) (x : Span) → span_at p no_spans ≡ Some x → ⊥
no_span here x e = cc
no_span (later p) x e = no_span p x e
no_span (inside part p) x e = no_span p x e
no_span condition x e = cc

nothing_at : (p : Place) → span_at p no_spans ≡ None
nothing_at here = refl
nothing_at (later p) = nothing_at p
nothing_at (inside part p) = nothing_at p
nothing_at condition = refl

-- an empty block has no span anywhere
nothing : (p : Place) (own : BlockSpans) → InStep stop own → span_at p no_spans ≡ span_at p own
nothing p own h = nothing_at p ∙ sym (by_value (span_at p own) refl)
  where
    by_value : (x : Option Span) → span_at p own ≡ x → span_at p own ≡ None
    by_value None e = e
    by_value (Some x) e = let f = h.only p x e in absurd (none_in_stop p f.0 f.1)

-- the first statement of a block in step has a span
first_has : {s : PlainStatement} {rest : PlainBlock} {own : BlockSpans} → InStep (next s rest) own → (x : Span) × (span_at here own ≡ Some x)
first_has {s = s} h = h.spanned here s refl

whole : (own : BlockSpans) → spans (own_spans own) (within_spans own) ≡ own
whole (spans own within) = refl

-- ---- parts of a completed statement

case_span : (cs : PlainCases) (own : CaseSpans) (k : ℕ) → ((q : ℕ) → InStep (case_body cs q) (case_spans own q))
    → (CaseEnds cs k × (case_spans (finished_case_spans cs own) k ≡ completed_spans (case_body cs k) (case_spans own k))) ⊎ ((p : Place) → span_at p (case_spans (finished_case_spans cs own) k) ≡ span_at p (case_spans own k))
case_span no_case own k h = inr (λ p. nothing p (case_spans own k) (h k))
case_span (case value body true rest) no_more zero h = inr (λ p. refl)
case_span (case value body true rest) (in_case b bs) zero h = inr (λ p. refl)
case_span (case value body false rest) no_more zero h = inl (refl, refl)
case_span (case value body false rest) (in_case b bs) zero h = inl (refl, refl)
case_span (case value body falls rest) no_more (suc k) h = case_span rest no_more k (λ q. h (suc q))
case_span (case value body falls rest) (in_case b bs) (suc k) h = case_span rest bs k (λ q. h (suc q))

case_span_tail : (cs : PlainCases) (own : CaseSpans) (k : ℕ) → CaseEnds cs k → case_spans (finished_case_spans cs own) k ≡ completed_spans (case_body cs k) (case_spans own k)
case_span_tail no_case own k h = absurd h
case_span_tail (case value body falls rest) no_more zero h = subst (λ f. case_spans (finished_case_spans (case value body f rest) no_more) zero ≡ completed_spans body no_spans) (sym h) refl
case_span_tail (case value body falls rest) (in_case b bs) zero h = subst (λ f. case_spans (finished_case_spans (case value body f rest) (in_case b bs)) zero ≡ completed_spans body b) (sym h) refl
case_span_tail (case value body falls rest) no_more (suc k) h = case_span_tail rest no_more k h
case_span_tail (case value body falls rest) (in_case b bs) (suc k) h = case_span_tail rest bs k h

in_case_at : (own : StatementSpans) (k : ℕ) → case_spans (cases_within own) k ≡ spans_in own (case_at k)
in_case_at no_block k = refl
in_case_at (in_block b) k = refl
in_case_at (in_sides accept reject) k = refl
in_case_at (in_cases cases) k = refl
in_case_at (in_loop body continuing) k = refl

-- a tail part's spans are completed, and those of any other part stay at their places
span_part : (s : PlainStatement) (own : StatementSpans) (part : Part) → ((q : Part) → InStep (part_of (shape_of s) q) (spans_in own q))
    → (IsTailPart (shape_of s) part × (spans_in (finished_spans s own) part ≡ completed_spans (part_of (shape_of s) part) (spans_in own part))) ⊎ ((p : Place) → span_at p (spans_in (finished_spans s own) part) ≡ span_at p (spans_in own part))
span_part (block b) own inner h = inl (tt, refl)
span_part (block b) own accepting h = inr (λ p. nothing p _ (h accepting))
span_part (block b) own rejecting h = inr (λ p. nothing p _ (h rejecting))
span_part (block b) own (case_at k) h = inr (λ p. nothing p _ (h (case_at k)))
span_part (block b) own loop_body h = inr (λ p. nothing p _ (h loop_body))
span_part (block b) own loop_continuing h = inr (λ p. nothing p _ (h loop_continuing))
span_part (if_ test accept reject) own accepting h = inl (tt, refl)
span_part (if_ test accept reject) own rejecting h = inl (tt, refl)
span_part (if_ test accept reject) own inner h = inr (λ p. nothing p _ (h inner))
span_part (if_ test accept reject) own (case_at k) h = inr (λ p. nothing p _ (h (case_at k)))
span_part (if_ test accept reject) own loop_body h = inr (λ p. nothing p _ (h loop_body))
span_part (if_ test accept reject) own loop_continuing h = inr (λ p. nothing p _ (h loop_continuing))
span_part (switch selector cases) own (case_at k) h =
    elim (case_span cases (cases_within own) k (λ q. subst (InStep (case_body cases q)) (sym (in_case_at own q)) (h (case_at q)))) [
      | inl tail ↦ inl (tail.0, tail.1 ∙ ap (completed_spans (case_body cases k)) (in_case_at own k))
      | inr same ↦ inr (λ p. same p ∙ ap (span_at p) (in_case_at own k))
    ]
span_part (switch selector cases) own inner h = inr (λ p. nothing p _ (h inner))
span_part (switch selector cases) own accepting h = inr (λ p. nothing p _ (h accepting))
span_part (switch selector cases) own rejecting h = inr (λ p. nothing p _ (h rejecting))
span_part (switch selector cases) own loop_body h = inr (λ p. nothing p _ (h loop_body))
span_part (switch selector cases) own loop_continuing h = inr (λ p. nothing p _ (h loop_continuing))
span_part _ own part h = inr (λ p. refl)

span_tail : (s : PlainStatement) (own : StatementSpans) (part : Part) → IsTailPart (shape_of s) part → spans_in (finished_spans s own) part ≡ completed_spans (part_of (shape_of s) part) (spans_in own part)
span_tail (block b) own inner h = refl
span_tail (block b) own _ h = absurd h
span_tail (if_ test accept reject) own accepting h = refl
span_tail (if_ test accept reject) own rejecting h = refl
span_tail (if_ test accept reject) own _ h = absurd h
span_tail (switch selector cases) own (case_at k) h = case_span_tail cases (cases_within own) k h ∙ ap (completed_spans (case_body cases k)) (in_case_at own k)
span_tail (switch selector cases) own _ h = absurd h
span_tail _ own part h = absurd h

-- ---- places

pub span_kept : (p : Place) (b : PlainBlock) (own : BlockSpans) → InStep b own → (s : PlainStatement) → OccursAt b p s → span_at p (completed_spans b own) ≡ span_at p own
span_kept p stop own h s e = absurd (none_in_stop p s e)
span_kept condition (next u rest) own h s e = let x = e in cc
span_kept p (next u rest) (spans [] within) h s e = let f = (first_has h).1 in cc
span_kept here (next u stop) (spans (x ∷ own) within) h s e = refl
span_kept here (next u (next v rest)) (spans (x ∷ own) within) h s e = refl
span_kept (later p) (next u stop) own h s e = absurd (none_in_stop p s e)
span_kept (later p) (next u (next v rest)) (spans (x ∷ own) within) h s e =
    ap (span_at p) (whole (completed_spans (next v rest) (after_first (spans (x ∷ own) within)))) ∙ span_kept p (next v rest) (after_first (spans (x ∷ own) within)) (in_rest h) s e
span_kept (inside part p) (next u (next v rest)) own h s e = refl
span_kept (inside part p) (next u stop) own h s e =
    elim (span_part u (first_within own) part (in_part h)) [
      | inl tail ↦ ap (span_at p) tail.1 ∙ span_kept p (part_of (shape_of u) part) (spans_in (first_within own) part) (in_part h part) s e
      | inr same ↦ same p
    ]

pub span_added : (b : PlainBlock) (p : Place) → IsOpenEnd b p → (own : BlockSpans) → InStep b own → span_at p (completed_spans b own) ≡ Some undefined_span
span_added _ _ empty (spans [] within) h = refl
span_added _ _ empty (spans (x ∷ own) within) h = let f = (h.only here x refl).1 in cc
span_added _ _ (after_last g) (spans [] within) h = let f = (first_has h).1 in cc
span_added _ _ (after_last {s = s} g) (spans (x ∷ []) within) h = ap (λ e. span_at (later here) (spans (x ∷ ending_span e) (in_next (finished_spans s (first_of within)) (ending_within e)))) g
span_added _ _ (after_last g) (spans (x ∷ y ∷ own) within) h = let f = (h.only (later here) y refl).1 in cc
span_added _ _ (further {s = s} {t = t} {rest = rest} {p = p} ends) (spans [] within) h = let f = (first_has h).1 in cc
span_added _ _ (further {s = s} {t = t} {rest = rest} {p = p} ends) (spans (x ∷ own) within) h =
    ap (span_at p) (whole (completed_spans (next t rest) (after_first (spans (x ∷ own) within)))) ∙ span_added (next t rest) p ends (after_first (spans (x ∷ own) within)) (in_rest h)
span_added _ _ (in_tail {s = s} {p = p} part tail ends) own h =
    ap (span_at p) (span_tail s (first_within own) part tail) ∙ span_added (part_of (shape_of s) part) p ends (spans_in (first_within own) part) (in_part h part)

pub span_only : (p : Place) (b : PlainBlock) (own : BlockSpans) → InStep b own → (x : Span) → span_at p (completed_spans b own) ≡ Some x → IsOpenEnd b p ⊎ ((s : PlainStatement) × OccursAt b p s)
span_only condition b own h x e = cc
span_only here stop own h x e = inl empty
span_only (later p) stop (spans [] within) h x e = absurd (no_span p x e)
span_only (later p) stop (spans (y ∷ own) within) h x e = let f = (h.only here y refl).1 in cc
span_only (inside part p) stop own h x e = absurd (no_span p x e)
span_only here (next s rest) own h x e = inr (s, refl)
span_only (later p) (next s rest) (spans [] within) h x e = let f = (first_has h).1 in cc
span_only (later p) (next s stop) (spans (y ∷ z ∷ own) within) h x e = let f = (h.only (later here) z refl).1 in cc
span_only (later p) (next s stop) (spans (y ∷ []) within) h x e = inl (behind (goes_on (shape_of s)) refl p e)
  where
    behind : (g : Bool) → goes_on (shape_of s) ≡ g → (p : Place) → span_at p (spans (ending_span g) (ending_within g)) ≡ Some x → IsOpenEnd (next s stop) (later p)
    behind true is here e = after_last is
    behind true is (later p) e = absurd (no_span p x e)
    behind true is (inside part p) e = absurd (no_span p x e)
    behind true is condition e = cc
    behind false is p e = absurd (no_span p x e)
span_only (later p) (next s (next t rest)) (spans (y ∷ own) within) h x e =
    elim (span_only p (next t rest) (after_first (spans (y ∷ own) within)) (in_rest h) x (sym (ap (span_at p) (whole (completed_spans (next t rest) (after_first (spans (y ∷ own) within))))) ∙ e)) [
      | inl ends ↦ inl (further ends)
      | inr stands ↦ inr stands
    ]
span_only (inside part p) (next s (next t rest)) own h x e = inr (h.only (inside part p) x e)
span_only (inside part p) (next s stop) own h x e =
    elim (span_part s (first_within own) part (in_part h)) [
      | inl tail ↦ elim (span_only p (part_of (shape_of s) part) (spans_in (first_within own) part) (in_part h part) x (sym (ap (span_at p) tail.1) ∙ e)) [
        | inl ends ↦ inl (in_tail part tail.0 ends)
        | inr stands ↦ inr stands
      ]
      | inr same ↦ inr (h.only (inside part p) x (sym (same p) ∙ e))
    ]

stays_in_step : (b : PlainBlock) (own : BlockSpans) → InStep b own → InStep (completed b) (completed_spans b own)
stays_in_step b own h = record {
  spanned = λ p s e. elim (only p b s e) [
    | inl ends ↦ (undefined_span, span_added b p ends own h)
    | inr stands ↦ (let k = h.spanned p stands.0 stands.1 in (k.0, span_kept p b own h stands.0 stands.1 ∙ k.1))
  ];
  only = λ p x e. elim (span_only p b own h x e) [
    | inl ends ↦ (return None, added b p ends)
    | inr stands ↦ (let k = kept p b stands.0 stands.1 in (k.0, k.1))
  ];
}

pub spans_completed : (b : PlainBlock) (own : BlockSpans) → InStep b own → SpansCompleted b (completed b) own (completed_spans b own)
spans_completed b own h = record { kept = λ p s e. span_kept p b own h s e; added = λ p ends. span_added b p ends own h; in_step = stays_in_step b own h }

-- `completed` and its spans satisfy the specification
pub completed_is : (b c : PlainBlock) → c ≡ completed b → IsCompleted b c
completed_is b c e = subst (IsCompleted b) (sym e) (is_completed b)

pub spans_completed_is : (b c : PlainBlock) (before after : BlockSpans) → c ≡ completed b → after ≡ completed_spans b before → InStep b before → SpansCompleted b c before after
spans_completed_is b c before after e f h = subst (λ z. SpansCompleted b z before after) (sym e) (subst (SpansCompleted b (completed b) before) (sym f) (spans_completed b before h))
