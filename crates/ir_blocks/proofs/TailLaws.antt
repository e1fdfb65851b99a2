-- The completed body has a return at each open end of a tail block, and is otherwise unchanged.
use Rattle.std.proofs.Common.{◌≡◌, ◌⊎◌, inl, inr, ℕ, zero, suc, Bool, true, false, None, refl, sym, ap, subst, ◌∙◌}
use Rattle.ir_blocks.specs.judged.Plain.{PlainStatement, emit, block, if_, switch, loop, break, continue, return, kill, operation, call, PlainBlock, stop, next, PlainCases, no_case, case}
use Rattle.ir_blocks.specs.judged.Shapes.{shape_of, Part, inner, accepting, rejecting, case_at, case_body, part_of}
use Rattle.ir_blocks.specs.judged.Places.{Place, here, later, inside, condition, spot_at, OccursAt}
use Rattle.ir_blocks.specs.judged.Tails.{CaseEnds, IsTailPart, goes_on, IsOpenEnd, empty, after_last, further, in_tail, case_heads, head_of, IsCompleted, ending, completed, finished, finished_cases}

-- ---- parts of a completed statement

-- a case that doesn't fall through is completed, and any other stays
case_either : (cs : PlainCases) (k : ℕ) → (CaseEnds cs k × (case_body (finished_cases cs) k ≡ completed (case_body cs k))) ⊎ (case_body (finished_cases cs) k ≡ case_body cs k)
case_either no_case k = inr refl
case_either (case value body true rest) zero = inr refl
case_either (case value body false rest) zero = inl (refl, refl)
case_either (case value body falls rest) (suc k) = case_either rest k

-- a tail part is completed, and any other stays
part_either : (s : PlainStatement) (part : Part)
    → (IsTailPart (shape_of s) part × (part_of (shape_of (finished s)) part ≡ completed (part_of (shape_of s) part))) ⊎ (part_of (shape_of (finished s)) part ≡ part_of (shape_of s) part)
part_either (emit first end) part = inr refl
part_either (block b) inner = inl (tt, refl)
part_either (block b) _ = inr refl
part_either (if_ test accept reject) accepting = inl (tt, refl)
part_either (if_ test accept reject) rejecting = inl (tt, refl)
part_either (if_ test accept reject) _ = inr refl
part_either (switch selector cases) (case_at k) = case_either cases k
part_either (switch selector cases) _ = inr refl
part_either (loop body continuing break_if) part = inr refl
part_either break part = inr refl
part_either continue part = inr refl
part_either (return value) part = inr refl
part_either kill part = inr refl
part_either (operation a) part = inr refl
part_either (call function arguments result) part = inr refl

case_tail : (cs : PlainCases) (k : ℕ) → CaseEnds cs k → case_body (finished_cases cs) k ≡ completed (case_body cs k)
case_tail no_case k h = absurd h
case_tail (case value body falls rest) zero h = subst (λ f. case_body (finished_cases (case value body f rest)) zero ≡ completed body) (sym h) refl
case_tail (case value body falls rest) (suc k) h = case_tail rest k h

part_tail : (s : PlainStatement) (part : Part) → IsTailPart (shape_of s) part → part_of (shape_of (finished s)) part ≡ completed (part_of (shape_of s) part)
part_tail (emit first end) part h = absurd h
part_tail (block b) inner h = refl
part_tail (block b) _ h = absurd h
part_tail (if_ test accept reject) accepting h = refl
part_tail (if_ test accept reject) rejecting h = refl
part_tail (if_ test accept reject) _ h = absurd h
part_tail (switch selector cases) (case_at k) h = case_tail cases k h
part_tail (switch selector cases) _ h = absurd h
part_tail (loop body continuing break_if) part h = absurd h
part_tail break part h = absurd h
part_tail continue part h = absurd h
part_tail (return value) part h = absurd h
part_tail kill part h = absurd h
part_tail (operation a) part h = absurd h
part_tail (call function arguments result) part h = absurd h

case_heads-finished : (cs : PlainCases) → case_heads (finished_cases cs) ≡ case_heads cs
case_heads-finished no_case = refl
case_heads-finished (case value body falls rest) = ap (case value stop falls) (case_heads-finished rest)

head_of-finished : (s : PlainStatement) → head_of (finished s) ≡ head_of s
head_of-finished (emit first end) = refl
head_of-finished (block b) = refl
head_of-finished (if_ test accept reject) = refl
head_of-finished (switch selector cases) = ap (switch selector) (case_heads-finished cases)
head_of-finished (loop body continuing break_if) = refl
head_of-finished break = refl
head_of-finished continue = refl
head_of-finished (return value) = refl
head_of-finished kill = refl
head_of-finished (operation a) = refl
head_of-finished (call function arguments result) = refl

-- ---- places

pub none_in_stop : (p : Place) (s : PlainStatement) → OccursAt stop p s → ⊥
none_in_stop here s e = let x = e in cc
none_in_stop (later p) s e = let x = e in cc
none_in_stop (inside part p) s e = let x = e in cc
none_in_stop condition s e = let x = e in cc

none_in_return : (part : Part) (p : Place) (s : PlainStatement) → OccursAt (part_of (shape_of (return None)) part) p s → ⊥
none_in_return part p s e = none_in_stop p s e

pub added : (b : PlainBlock) (p : Place) → IsOpenEnd b p → OccursAt (completed b) p (return None)
added _ _ empty = refl
added _ _ (after_last {s = s} g) = ap (λ e. spot_at here (ending e)) g
added _ _ (further {s = s} {t = t} {rest = rest} {p = p} h) = added (next t rest) p h
added _ _ (in_tail {s = s} {p = p} part tail h) =
    ap (spot_at p) (part_tail s part tail) ∙ added (part_of (shape_of s) part) p h

pub kept : (p : Place) (b : PlainBlock) (s : PlainStatement) → OccursAt b p s → (t : PlainStatement) × OccursAt (completed b) p t × (head_of t ≡ head_of s)
kept p stop s e = absurd (none_in_stop p s e)
kept here (next u stop) s e =
    let u_is : u ≡ s = (let x = e in cc) in
    (finished u, refl, head_of-finished u ∙ ap head_of u_is)
kept here (next u (next v rest)) s e = (s, e, refl)
kept (later p) (next u stop) s e = absurd (none_in_stop p s e)
kept (later p) (next u (next v rest)) s e = kept p (next v rest) s e
kept (inside part p) (next u (next v rest)) s e = (s, e, refl)
kept condition (next u rest) s e = let x = e in cc
kept (inside part p) (next u stop) s e =
    elim (part_either u part) [
      | inl tail ↦
          let k = kept p (part_of (shape_of u) part) s e in
          (k.0, ap (spot_at p) tail.1 ∙ k.1, k.2)
      | inr same ↦ (s, ap (spot_at p) same ∙ e, refl)
    ]

pub only : (p : Place) (b : PlainBlock) (t : PlainStatement) → OccursAt (completed b) p t → IsOpenEnd b p ⊎ ((s : PlainStatement) × OccursAt b p s)
only here stop t e = inl empty
only (later p) stop t e = absurd (none_in_stop p t e)
only (inside part p) stop t e = absurd (none_in_return part p t e)
only condition stop t e = let x = e in cc
only here (next s stop) t e = inr (s, refl)
only condition (next s stop) t e = let x = e in cc
only (later p) (next s stop) t e = behind s p t e
  where
    after_if : (g : Bool) (s : PlainStatement) (p : Place) (t : PlainStatement) → goes_on (shape_of s) ≡ g → OccursAt (ending g) p t → IsOpenEnd (next s stop) (later p)
    after_if true s here t is e = after_last is
    after_if true s (later p) t is e = absurd (none_in_stop p t e)
    after_if true s (inside part p) t is e = absurd (none_in_return part p t e)
    after_if true s condition t is e = let x = e in cc
    after_if false s p t is e = absurd (none_in_stop p t e)

    behind : (s : PlainStatement) (p : Place) (t : PlainStatement) → OccursAt (ending (goes_on (shape_of s))) p t → IsOpenEnd (next s stop) (later p) ⊎ ((u : PlainStatement) × OccursAt (next s stop) (later p) u)
    behind s p t e = inl (after_if (goes_on (shape_of s)) s p t refl e)
only (inside part p) (next s stop) t e =
    elim (part_either s part) [
      | inl tail ↦ elim (only p (part_of (shape_of s) part) t (sym (ap (spot_at p) tail.1) ∙ e)) [
        | inl ends ↦ inl (in_tail part tail.0 ends)
        | inr stands ↦ inr stands
      ]
      | inr same ↦ inr (t, sym (ap (spot_at p) same) ∙ e)
    ]
only here (next s (next u rest)) t e = inr (s, refl)
only condition (next s (next u rest)) t e = let x = e in cc
only (inside part p) (next s (next u rest)) t e = inr (t, e)
only (later p) (next s (next u rest)) t e =
    elim (only p (next u rest) t e) [
      | inl ends ↦ inl (further ends)
      | inr stands ↦ inr stands
    ]

pub is_completed : (b : PlainBlock) → IsCompleted b (completed b)
is_completed b = record { added = added b; kept = λ p s e. kept p b s e; only = λ p t e. only p b t e }

-- ---- idempotence

completed_behind : (s : PlainStatement) (b : PlainBlock) → completed (next s (completed b)) ≡ next s (completed (completed b))
completed_behind s stop = refl
completed_behind s (next t stop) = refl
completed_behind s (next t (next u rest)) = refl

mutual
  pub completed_once : (b : PlainBlock) → completed (completed b) ≡ completed b
  completed_once stop = refl
  completed_once (next s stop) = last_once s
  completed_once (next s (next t rest)) = completed_behind s (next t rest) ∙ ap (next s) (completed_once (next t rest))

  last_once : (s : PlainStatement) → completed (next (finished s) (ending (goes_on (shape_of s)))) ≡ next (finished s) (ending (goes_on (shape_of s)))
  last_once (emit first end) = refl
  last_once (block b) = ap (λ x. next (block x) stop) (completed_once b)
  last_once (if_ test accept reject) = λ i. next (if_ test (completed_once accept i) (completed_once reject i)) stop
  last_once (switch selector cases) = ap (λ x. next (switch selector x) stop) (cases_once cases)
  last_once (loop body continuing break_if) = refl
  last_once break = refl
  last_once continue = refl
  last_once (return value) = refl
  last_once kill = refl
  last_once (operation a) = refl
  last_once (call function arguments result) = refl

  cases_once : (cs : PlainCases) → finished_cases (finished_cases cs) ≡ finished_cases cs
  cases_once no_case = refl
  cases_once (case value body true rest) = ap (case value body true) (cases_once rest)
  cases_once (case value body false rest) = λ i. case value (completed_once body i) false (cases_once rest i)
