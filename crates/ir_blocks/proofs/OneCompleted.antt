-- A body has only one completion with returns.
use Rattle.std.proofs.Common.{◌≡◌, inl, inr, ℕ, zero, suc, Bool, true, false, true≢false, None, refl, sym, ap, subst, ◌∙◌}
use Rattle.ir_types.specs.IrKinds.{SwitchValue}
use Rattle.ir_blocks.specs.judged.Plain.{PlainStatement, emit, block, if_, switch, loop, break, continue, return, kill, operation, call, PlainBlock, stop, next, PlainCases, no_case, case}
use Rattle.ir_blocks.specs.judged.Shapes.{shape_of, Part, inner, accepting, rejecting, case_at, loop_body, loop_continuing, case_body, part_of}
use Rattle.ir_blocks.specs.judged.Places.{Place, here, later, inside, OccursAt}
use Rattle.ir_blocks.specs.judged.Tails.{CaseEnds, IsTailPart, goes_on, IsOpenEnd, empty, after_last, further, in_tail, case_heads, head_of, IsCompleted, ending, completed, finished, finished_cases}
use Rattle.ir_blocks.specs.found.View.{HoldsNoBlock}
use Rattle.ir_blocks.proofs.TailLaws.{none_in_stop}

-- ---- two bodies with the same statements at the same places

-- at each statement's place in b, c has the same statement up to nested blocks, and c has no other
record Same (b c : PlainBlock) : Type 0 where
  kept : (p : Place) (s : PlainStatement) → OccursAt b p s → (t : PlainStatement) × OccursAt c p t × (head_of t ≡ head_of s)
  only : (p : Place) (t : PlainStatement) → OccursAt c p t → (s : PlainStatement) × OccursAt b p s

first_is : (s t : PlainStatement) (b : PlainBlock) → OccursAt (next s b) here t → s ≡ t
first_is s t b e = let x = e in cc

-- a block with no statement at its first place is empty
no_first : (c : PlainBlock) → ((t : PlainStatement) → OccursAt c here t → ⊥) → c ≡ stop
no_first stop none = refl
no_first (next t rest) none = absurd (none t refl)

-- a statement without nested blocks is equal to its head
simple_is : (t s : PlainStatement) → head_of t ≡ s → HoldsNoBlock s → t ≡ s
simple_is (emit first end) s e h = e
simple_is (block b) s e h = absurd (subst HoldsNoBlock (sym e) h)
simple_is (if_ test accept reject) s e h = absurd (subst HoldsNoBlock (sym e) h)
simple_is (switch selector cases) s e h = absurd (subst HoldsNoBlock (sym e) h)
simple_is (loop body continuing break_if) s e h = absurd (subst HoldsNoBlock (sym e) h)
simple_is break s e h = e
simple_is continue s e h = e
simple_is (return value) s e h = e
simple_is kill s e h = e
simple_is (operation a) s e h = e
simple_is (call function arguments result) s e h = e

same_value : (v w : SwitchValue) (f g : Bool) (a b : PlainCases) → case v stop f a ≡ case w stop g b → v ≡ w
same_value v w f g a b e = let x = e in cc

same_falls : (v w : SwitchValue) (f g : Bool) (a b : PlainCases) → case v stop f a ≡ case w stop g b → f ≡ g
same_falls v w f g a b e = let x = e in cc

same_rest : (v w : SwitchValue) (f g : Bool) (a b : PlainCases) → case v stop f a ≡ case w stop g b → a ≡ b
same_rest v w f g a b e = let x = e in cc

mutual
  same : (b c : PlainBlock) → Same b c → c ≡ b
  same stop c h = no_first c (λ t e. let k = h.only here t e in none_in_stop here k.0 k.1)
  same (next s rest) stop h = let k = h.kept here s refl in absurd (none_in_stop here k.0 k.1)
  same (next s rest) (next t more) h =
      let k = h.kept here s refl in
      let head : head_of t ≡ head_of s = ap head_of (first_is t k.0 more k.1) ∙ k.2 in
      let first : t ≡ s = same_statement s t head (λ part. record { kept = λ p x e. h.kept (inside part p) x e; only = λ p x e. h.only (inside part p) x e }) in
      let behind : more ≡ rest = same rest more (record { kept = λ p x e. h.kept (later p) x e; only = λ p x e. h.only (later p) x e }) in
      (λ i. next (first i) (behind i))

  same_statement : (s t : PlainStatement) → head_of t ≡ head_of s → ((part : Part) → Same (part_of (shape_of s) part) (part_of (shape_of t) part)) → t ≡ s
  same_statement (emit first end) t e h = simple_is t _ e tt
  same_statement (block b) (block c) e h = ap block (same b c (h inner))
  same_statement (block b) _ e h = let x = e in cc
  same_statement (if_ test accept reject) (if_ u c d) e h =
      let tests : u ≡ test = (let x = e in cc) in
      (λ i. if_ (tests i) (same accept c (h accepting) i) (same reject d (h rejecting) i))
  same_statement (if_ test accept reject) _ e h = let x = e in cc
  same_statement (switch selector cases) (switch u c) e h =
      let selectors : u ≡ selector = (let x = e in cc) in
      let heads : case_heads c ≡ case_heads cases = (let x = e in cc) in
      (λ i. switch (selectors i) (same_cases cases c heads (λ k. h (case_at k)) i))
  same_statement (switch selector cases) _ e h = let x = e in cc
  same_statement (loop body continuing break_if) (loop c d u) e h =
      let ifs : u ≡ break_if = (let x = e in cc) in
      (λ i. loop (same body c (h loop_body) i) (same continuing d (h loop_continuing) i) (ifs i))
  same_statement (loop body continuing break_if) _ e h = let x = e in cc
  same_statement break t e h = simple_is t _ e tt
  same_statement continue t e h = simple_is t _ e tt
  same_statement (return value) t e h = simple_is t _ e tt
  same_statement kill t e h = simple_is t _ e tt
  same_statement (operation a) t e h = simple_is t _ e tt
  same_statement (call function arguments result) t e h = simple_is t _ e tt

  same_cases : (cs ds : PlainCases) → case_heads ds ≡ case_heads cs → ((k : ℕ) → Same (case_body cs k) (case_body ds k)) → ds ≡ cs
  same_cases no_case no_case e h = refl
  same_cases no_case (case v c g more) e h = let x = e in cc
  same_cases (case value body falls rest) no_case e h = let x = e in cc
  same_cases (case value body falls rest) (case v c g more) e h =
      let values = same_value v value g falls _ _ e in
      let fall = same_falls v value g falls _ _ e in
      let others = same_rest v value g falls (case_heads more) (case_heads rest) e in
      (λ i. case (values i) (same body c (h zero) i) (fall i) (same_cases rest more others (λ k. h (suc k)) i))

-- ---- open ends, from inside

open_later : {s t : PlainStatement} {rest : PlainBlock} {p : Place} → IsOpenEnd (next s (next t rest)) (later p) → IsOpenEnd (next t rest) p
open_later (further o) = o

none_inside : {s t : PlainStatement} {rest : PlainBlock} {part : Part} {p : Place} → IsOpenEnd (next s (next t rest)) (inside part p) → ⊥
none_inside o = elim o [ ]

open_inside : {s : PlainStatement} {part : Part} {p : Place} → IsOpenEnd (next s stop) (inside part p) → IsTailPart (shape_of s) part × IsOpenEnd (part_of (shape_of s) part) p
open_inside (in_tail part tail o) = (tail, o)

open_behind : {s : PlainStatement} → IsOpenEnd (next s stop) (later here) → goes_on (shape_of s) ≡ true
open_behind (after_last g) = g

none_further : {s : PlainStatement} {p : Place} → IsOpenEnd (next s stop) (later (later p)) → ⊥
none_further o = elim o [ ]

none_at_first : {s : PlainStatement} {rest : PlainBlock} → IsOpenEnd (next s rest) here → ⊥
none_at_first o = elim o [ ]

none_behind_stop : {p : Place} → IsOpenEnd stop (later p) → ⊥
none_behind_stop o = elim o [ ]

none_in_empty : {part : Part} {p : Place} → IsOpenEnd stop (inside part p) → ⊥
none_in_empty o = elim o [ ]

-- ---- the completed body

-- what is after the last statement
ends : (s t : PlainStatement) (more : PlainBlock) (g : Bool) → goes_on (shape_of s) ≡ g → IsCompleted (next s stop) (next t more) → more ≡ ending g
ends s t stop true g h = absurd (none_in_stop here (return None) (h.added (later here) (after_last g)))
ends s t (next r rest) true g h =
    let first : r ≡ return None = first_is r (return None) rest (h.added (later here) (after_last g)) in
    let behind : rest ≡ stop = no_first rest (λ u e. elim (h.only (later (later here)) u e) [ inl o ↦ none_further o | inr x ↦ none_in_stop (later here) x.0 x.1 ]) in
    (λ i. next (first i) (behind i))
ends s t more false g h = no_first more (λ u e. elim (h.only (later here) u e) [ inl o ↦ true≢false (sym (open_behind o) ∙ g) | inr x ↦ none_in_stop here x.0 x.1 ])

-- the first of several statements, and those after it
first_same : (s r t : PlainStatement) (rest more : PlainBlock) → IsCompleted (next s (next r rest)) (next t more) → t ≡ s
first_same s r t rest more h =
    let k = h.kept here s refl in
    same_statement s t (ap head_of (first_is t k.0 more k.1) ∙ k.2) (λ part. record {
      kept = λ p x e. h.kept (inside part p) x e;
      only = λ p x e. elim (h.only (inside part p) x e) [ inl o ↦ absurd (none_inside o) | inr y ↦ y ];
    })

rest_completed : {s r t : PlainStatement} {rest more : PlainBlock} → IsCompleted (next s (next r rest)) (next t more) → IsCompleted (next r rest) more
rest_completed h = record {
  added = λ p o. h.added (later p) (further o);
  kept = λ p x e. h.kept (later p) x e;
  only = λ p x e. elim (h.only (later p) x e) [ inl o ↦ inl (open_later o) | inr y ↦ inr y ];
}

-- the parts of the last statement: a tail part is completed, and any other stays
tail_completed : {s t : PlainStatement} {more : PlainBlock} → IsCompleted (next s stop) (next t more) → (part : Part) → IsTailPart (shape_of s) part → IsCompleted (part_of (shape_of s) part) (part_of (shape_of t) part)
tail_completed h part tail = record {
  added = λ p o. h.added (inside part p) (in_tail part tail o);
  kept = λ p x e. h.kept (inside part p) x e;
  only = λ p x e. elim (h.only (inside part p) x e) [ inl o ↦ inl ((open_inside o).1) | inr y ↦ inr y ];
}

other_same : {s t : PlainStatement} {more : PlainBlock} → IsCompleted (next s stop) (next t more) → (part : Part) → (IsTailPart (shape_of s) part → ⊥) → Same (part_of (shape_of s) part) (part_of (shape_of t) part)
other_same h part other = record {
  kept = λ p x e. h.kept (inside part p) x e;
  only = λ p x e. elim (h.only (inside part p) x e) [ inl o ↦ absurd (other (open_inside o).0) | inr y ↦ y ];
}

mutual
  pub one_completed : (b c : PlainBlock) → IsCompleted b c → c ≡ completed b
  one_completed stop stop h = absurd (none_in_stop here (return None) (h.added here empty))
  one_completed stop (next t more) h =
      let first : t ≡ return None = first_is t (return None) more (h.added here empty) in
      let behind : more ≡ stop = no_first more (λ u e. elim (h.only (later here) u e) [ inl o ↦ none_behind_stop o | inr x ↦ none_in_stop (later here) x.0 x.1 ]) in
      (λ i. next (first i) (behind i))
  one_completed (next s rest) stop h = let k = h.kept here s refl in absurd (none_in_stop here k.0 k.1)
  one_completed (next s stop) (next t more) h =
      let k = h.kept here s refl in
      let first : t ≡ finished s = one_finished s t (ap head_of (first_is t k.0 more k.1) ∙ k.2) (tail_completed h) (other_same h) in
      let behind : more ≡ ending (goes_on (shape_of s)) = ends s t more (goes_on (shape_of s)) refl h in
      (λ i. next (first i) (behind i))
  one_completed (next s (next r rest)) (next t more) h =
      let first : t ≡ s = first_same s r t rest more h in
      let behind : more ≡ completed (next r rest) = one_completed (next r rest) more (rest_completed h) in
      (λ i. next (first i) (behind i))

  one_finished : (s t : PlainStatement) → head_of t ≡ head_of s
      → ((part : Part) → IsTailPart (shape_of s) part → IsCompleted (part_of (shape_of s) part) (part_of (shape_of t) part))
      → ((part : Part) → (IsTailPart (shape_of s) part → ⊥) → Same (part_of (shape_of s) part) (part_of (shape_of t) part)) → t ≡ finished s
  one_finished (emit first end) t e tails others = simple_is t _ e tt
  one_finished (block b) (block c) e tails others = ap block (one_completed b c (tails inner tt))
  one_finished (block b) _ e tails others = let x = e in cc
  one_finished (if_ test accept reject) (if_ u c d) e tails others =
      let tests : u ≡ test = (let x = e in cc) in
      (λ i. if_ (tests i) (one_completed accept c (tails accepting tt) i) (one_completed reject d (tails rejecting tt) i))
  one_finished (if_ test accept reject) _ e tails others = let x = e in cc
  one_finished (switch selector cases) (switch u c) e tails others =
      let selectors : u ≡ selector = (let x = e in cc) in
      let heads : case_heads c ≡ case_heads cases = (let x = e in cc) in
      (λ i. switch (selectors i) (cases_completed cases c heads (λ k. tails (case_at k)) (λ k. others (case_at k)) i))
  one_finished (switch selector cases) _ e tails others = let x = e in cc
  one_finished (loop body continuing break_if) t e tails others = same_statement (loop body continuing break_if) t e (λ part. others part (λ x. x))
  one_finished break t e tails others = simple_is t _ e tt
  one_finished continue t e tails others = simple_is t _ e tt
  one_finished (return value) t e tails others = simple_is t _ e tt
  one_finished kill t e tails others = simple_is t _ e tt
  one_finished (operation a) t e tails others = simple_is t _ e tt
  one_finished (call function arguments result) t e tails others = simple_is t _ e tt

  cases_completed : (cs ds : PlainCases) → case_heads ds ≡ case_heads cs
      → ((k : ℕ) → CaseEnds cs k → IsCompleted (case_body cs k) (case_body ds k)) → ((k : ℕ) → (CaseEnds cs k → ⊥) → Same (case_body cs k) (case_body ds k)) → ds ≡ finished_cases cs
  cases_completed no_case no_case e tails others = refl
  cases_completed no_case (case v c g more) e tails others = let x = e in cc
  cases_completed (case value body falls rest) no_case e tails others = let x = e in cc
  cases_completed (case value body true rest) (case v c g more) e tails others =
      let values = same_value v value g true (case_heads more) (case_heads rest) e in
      let fall = same_falls v value g true (case_heads more) (case_heads rest) e in
      let heads = same_rest v value g true (case_heads more) (case_heads rest) e in
      (λ i. case (values i) (same body c (others zero true≢false) i) (fall i) (cases_completed rest more heads (λ k. tails (suc k)) (λ k. others (suc k)) i))
  cases_completed (case value body false rest) (case v c g more) e tails others =
      let values = same_value v value g false (case_heads more) (case_heads rest) e in
      let fall = same_falls v value g false (case_heads more) (case_heads rest) e in
      let heads = same_rest v value g false (case_heads more) (case_heads rest) e in
      (λ i. case (values i) (one_completed body c (tails zero refl) i) (fall i) (cases_completed rest more heads (λ k. tails (suc k)) (λ k. others (suc k)) i))
