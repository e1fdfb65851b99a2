-- A body is alike to the same body with missing returns inserted.
use Rattle.std.proofs.Common.{◌≡◌, ◌⊎◌, inl, inr, ℕ, zero, suc, Bool, true, false, Option, None, List, [], ◌∷◌, ◌++◌, refl, sym, ap, subst, ◌∙◌}
use Rattle.ir_blocks.specs.judged.Plain.{PlainStatement, block, if_, switch, return, PlainBlock, stop, next, PlainCases, no_case, case}
use Rattle.ir_blocks.specs.judged.Shapes.{Shape, leaves, nests, chooses, switches, shape_of, Part, inner, accepting, rejecting, case_at, loop_body, loop_continuing, case_body, part_of}
use Rattle.ir_blocks.specs.judged.Places.{Place, here, later, inside, condition, Before, earlier, both_later, both_inside, body_before_continuing, body_before_condition, continuing_before_condition, nothing, loop_condition, condition_of, spot_at, OccursAt}
use Rattle.ir_blocks.specs.judged.Control.{returns_in, parts_around}
use Rattle.ir_blocks.specs.judged.Tails.{CaseEnds, IsTailPart, goes_on, IsOpenEnd, empty, after_last, further, in_tail, head_of, ending, completed, finished, finished_cases}
use Rattle.ir_blocks.proofs.TailLaws as tail
use Rattle.spec_expressions.specs.judged.Effects.{statement_effects, effects_in, effects_inside, effects_in_cases}
use Rattle.spec_expressions.specs.judged.Positions.{Holds, holds_later, holds_inside}
use Rattle.judgement_laws.specs.found.Alike.{Carried, kept, extra, Alike}

-- ---- parts of a completed statement (as in TailLaws, where these are not public)

-- a case that ends is completed, and any other is unchanged
case_either : (cs : PlainCases) (k : ℕ) → (CaseEnds cs k × (case_body (finished_cases cs) k ≡ completed (case_body cs k))) ⊎ (case_body (finished_cases cs) k ≡ case_body cs k)
case_either no_case k = inr refl
case_either (case value body true rest) zero = inr refl
case_either (case value body false rest) zero = inl (refl, refl)
case_either (case value body falls rest) (suc k) = case_either rest k

-- a block in tail position is completed, and any other is unchanged
part_either : (s : PlainStatement) (part : Part)
    → (IsTailPart (shape_of s) part × (part_of (shape_of (finished s)) part ≡ completed (part_of (shape_of s) part))) ⊎ (part_of (shape_of (finished s)) part ≡ part_of (shape_of s) part)
part_either (block b) inner = inl (tt, refl)
part_either (block b) _ = inr refl
part_either (if_ test accept reject) accepting = inl (tt, refl)
part_either (if_ test accept reject) rejecting = inl (tt, refl)
part_either (if_ test accept reject) _ = inr refl
part_either (switch selector cases) (case_at k) = case_either cases k
part_either (switch selector cases) _ = inr refl
part_either s part = inr refl

case_tail : (cs : PlainCases) (k : ℕ) → CaseEnds cs k → case_body (finished_cases cs) k ≡ completed (case_body cs k)
case_tail no_case k h = absurd h
case_tail (case value body falls rest) zero h = subst (λ f. case_body (finished_cases (case value body f rest)) zero ≡ completed body) (sym h) refl
case_tail (case value body falls rest) (suc k) h = case_tail rest k h

part_tail : (s : PlainStatement) (part : Part) → IsTailPart (shape_of s) part → part_of (shape_of (finished s)) part ≡ completed (part_of (shape_of s) part)
part_tail (block b) inner h = refl
part_tail (block b) _ h = absurd h
part_tail (if_ test accept reject) accepting h = refl
part_tail (if_ test accept reject) rejecting h = refl
part_tail (if_ test accept reject) _ h = absurd h
part_tail (switch selector cases) (case_at k) h = case_tail cases k h
part_tail (switch selector cases) _ h = absurd h
part_tail s part h = absurd h

-- ---- no statement in an empty block, or after a single return

pub nothing_in_stop : (p : Place) → spot_at p stop ≡ nothing
nothing_in_stop here = refl
nothing_in_stop (later p) = refl
nothing_in_stop (inside part p) = refl
nothing_in_stop condition = refl

no_condition_in_stop : (p : Place) (e : Option ℕ) → spot_at p stop ≡ loop_condition e → ⊥
no_condition_in_stop here e h = let x = h in cc
no_condition_in_stop (later p) e h = let x = h in cc
no_condition_in_stop (inside part p) e h = let x = h in cc
no_condition_in_stop condition e h = let x = h in cc

-- ---- conditions

condition_finished : (s : PlainStatement) → condition_of (shape_of (finished s)) ≡ condition_of (shape_of s)
condition_finished (block b) = refl
condition_finished s = refl

condition_kept : (p : Place) (b : PlainBlock) (e : Option ℕ) → spot_at p b ≡ loop_condition e → spot_at p (completed b) ≡ loop_condition e
condition_kept p stop e h = absurd (no_condition_in_stop p e h)
condition_kept here (next u rest) e h = let x = h in cc
condition_kept (later p) (next u stop) e h = absurd (no_condition_in_stop p e h)
condition_kept (later p) (next u (next v rest)) e h = condition_kept p (next v rest) e h
condition_kept (inside part p) (next u stop) e h =
    elim (part_either u part) [
      | inl t ↦ ap (spot_at p) t.1 ∙ condition_kept p (part_of (shape_of u) part) e h
      | inr same ↦ ap (spot_at p) same ∙ h
    ]
condition_kept (inside part p) (next u (next v rest)) e h = h
condition_kept condition (next u stop) e h = ap loop_condition (condition_finished u) ∙ h
condition_kept condition (next u (next v rest)) e h = h

after_condition : (g : Bool) (p : Place) (e : Option ℕ) → spot_at p (ending g) ≡ loop_condition e → e ≡ None
after_condition false p e h = absurd (no_condition_in_stop p e h)
after_condition true here e h = let x = h in cc
after_condition true (later p) e h = absurd (no_condition_in_stop p e h)
after_condition true (inside part p) e h = absurd (no_condition_in_stop p e h)
after_condition true condition e h = let x = h in cc

condition_back : (p : Place) (b : PlainBlock) (e : Option ℕ) → spot_at p (completed b) ≡ loop_condition e → (spot_at p b ≡ loop_condition e) ⊎ (e ≡ None)
condition_back p stop e h = inr (after_condition true p e h)
condition_back here (next u stop) e h = let x = h in cc
condition_back here (next u (next v rest)) e h = let x = h in cc
condition_back (later p) (next u stop) e h = inr (after_condition (goes_on (shape_of u)) p e h)
condition_back (later p) (next u (next v rest)) e h = condition_back p (next v rest) e h
condition_back (inside part p) (next u stop) e h =
    elim (part_either u part) [
      | inl t ↦ condition_back p (part_of (shape_of u) part) e (sym (ap (spot_at p) t.1) ∙ h)
      | inr same ↦ inl (sym (ap (spot_at p) same) ∙ h)
    ]
condition_back (inside part p) (next u (next v rest)) e h = inl h
condition_back condition (next u stop) e h = inl (ap loop_condition (sym (condition_finished u)) ∙ h)
condition_back condition (next u (next v rest)) e h = inl h

-- ---- open ends

pub open_nothing : {b : PlainBlock} {p : Place} → IsOpenEnd b p → spot_at p b ≡ nothing
open_nothing empty = refl
open_nothing (after_last goes) = refl
open_nothing (further e) = open_nothing e
open_nothing (in_tail part t e) = open_nothing e

not_loop_body : (x : Shape) → IsTailPart x loop_body → ⊥
not_loop_body (leaves exit) t = t
not_loop_body x t = t

not_loop_continuing : (x : Shape) → IsTailPart x loop_continuing → ⊥
not_loop_continuing (leaves exit) t = t
not_loop_continuing x t = t

tail_ends : (x : Shape) (part : Part) → IsTailPart x part → goes_on x ≡ false
tail_ends (leaves exit) part t = refl
tail_ends (nests b) part t = refl
tail_ends (chooses accept reject) part t = refl
tail_ends (switches cases) part t = refl
tail_ends x part t = absurd t

tail_returns : (x : Shape) (part : Part) (outer : List Part) → IsTailPart x part → returns_in outer ≡ true → returns_in (part ∷ outer) ≡ true
tail_returns x inner outer t h = h
tail_returns x accepting outer t h = h
tail_returns x rejecting outer t h = h
tail_returns x (case_at k) outer t h = h
tail_returns x loop_body outer t h = h
tail_returns x loop_continuing outer t h = absurd (not_loop_continuing x t)

open_returns : {b : PlainBlock} {p : Place} (outer : List Part) → IsOpenEnd b p → returns_in outer ≡ true → returns_in (parts_around outer p) ≡ true
open_returns outer empty h = h
open_returns outer (after_last goes) h = h
open_returns outer (further e) h = open_returns outer e h
open_returns outer (in_tail {s = s} part t e) h = open_returns (part ∷ outer) e (tail_returns (shape_of s) part outer t h)

nothing_behind : (g : Bool) (p : Place) → spot_at (later p) (ending g) ≡ nothing
nothing_behind true p = nothing_in_stop p
nothing_behind false p = refl

-- what follows a statement that contains an open end, if that is first in its block
first_behind : {p : Place} (c : PlainBlock) (u : PlainStatement) → c ≡ next u stop → Before here p → spot_at p c ≡ nothing
first_behind c u is (earlier {p = p}) = ap (spot_at (later p)) is ∙ nothing_in_stop p

open_closed : {b : PlainBlock} {r : Place} → IsOpenEnd b r → (q p : Place) → Holds q r → Before q p → spot_at p (completed b) ≡ nothing
open_closed empty here p h k = first_behind (next (return None) stop) (return None) refl k
open_closed empty (later q) p h k = elim h [ ]
open_closed empty (inside part q) p h k = elim h [ ]
open_closed empty condition p h k = elim h [ ]
open_closed (after_last {s = s} goes) (later q) (later p) (holds_later h) (both_later k) = last_closed s goes q p h k
  where
    last_closed : (s : PlainStatement) → goes_on (shape_of s) ≡ true → (q p : Place) → Holds q here → Before q p → spot_at p (ending (goes_on (shape_of s))) ≡ nothing
    last_closed s goes here p h k = first_behind (ending (goes_on (shape_of s))) (return None) (ap ending goes) k
    last_closed s goes (later q) p h k = elim h [ ]
    last_closed s goes (inside part q) p h k = elim h [ ]
    last_closed s goes condition p h k = elim h [ ]
open_closed (after_last goes) here p h k = elim h [ ]
open_closed (after_last goes) (later q) here h k = elim k [ ]
open_closed (after_last goes) (later q) (inside _ p) h k = elim k [ ]
open_closed (after_last goes) (later q) condition h k = elim k [ ]
open_closed (after_last goes) (inside part q) p h k = elim h [ ]
open_closed (after_last goes) condition p h k = elim h [ ]
open_closed (further o) here p h k = elim h [ ]
open_closed (further o) (later q) here h k = elim k [ ]
open_closed (further o) (later q) (inside _ p) h k = elim k [ ]
open_closed (further o) (later q) condition h k = elim k [ ]
open_closed (further o) (inside part q) p h k = elim h [ ]
open_closed (further o) condition p h k = elim h [ ]
open_closed (further o) (later q) (later p) (holds_later h) (both_later k) = open_closed o q p h k
open_closed (in_tail {s = s} part t o) here p h k = first_behind (next (finished s) (ending (goes_on (shape_of s)))) (finished s) (ap (λ g. next (finished s) (ending g)) (tail_ends (shape_of s) part t)) k
open_closed (in_tail {s = s} part t o) (inside _ q) (inside _ p) (holds_inside _ h) (both_inside _ k) = ap (spot_at p) (part_tail s part t) ∙ open_closed o q p h k
open_closed (in_tail {s = s} loop_body t o) (inside _ q) (inside loop_continuing p) (holds_inside _ h) (body_before_continuing k) = absurd (not_loop_body (shape_of s) t)
open_closed (in_tail {s = s} loop_body t o) (inside _ q) condition (holds_inside _ h) (body_before_condition k) = absurd (not_loop_body (shape_of s) t)
open_closed (in_tail {s = s} loop_continuing t o) (inside _ q) condition (holds_inside _ h) (continuing_before_condition k) = absurd (not_loop_continuing (shape_of s) t)
open_closed (in_tail part t o) (later q) p h k = elim h [ ]
open_closed (in_tail part t o) (inside _ q) here h k = elim k [ ]
open_closed (in_tail part t o) (inside _ q) (later p) h k = elim k [ ]
open_closed (in_tail inner t o) (inside _ q) condition (holds_inside _ h) k = elim k [ ]
open_closed (in_tail accepting t o) (inside _ q) condition (holds_inside _ h) k = elim k [ ]
open_closed (in_tail rejecting t o) (inside _ q) condition (holds_inside _ h) k = elim k [ ]
open_closed (in_tail (case_at n) t o) (inside _ q) condition (holds_inside _ h) k = elim k [ ]
open_closed (in_tail part t o) condition p h k = elim h [ ]

-- ---- effects

effects_behind : (g : Bool) → effects_in (ending g) ≡ []
effects_behind true = refl
effects_behind false = refl

mutual
  pub effects_completed : (b : PlainBlock) → effects_in b ≡ effects_in (completed b)
  effects_completed stop = refl
  effects_completed (next s stop) = λ i. (own_effects s i ++ effects_finished s i) ++ sym (effects_behind (goes_on (shape_of s))) i
  effects_completed (next s (next t rest)) = ap (λ x. (statement_effects s ++ effects_inside s) ++ x) (effects_completed (next t rest))

  own_effects : (s : PlainStatement) → statement_effects s ≡ statement_effects (finished s)
  own_effects (block b) = refl
  own_effects s = refl

  effects_finished : (s : PlainStatement) → effects_inside s ≡ effects_inside (finished s)
  effects_finished (block b) = effects_completed b
  effects_finished (if_ test accept reject) = λ i. effects_completed accept i ++ effects_completed reject i
  effects_finished (switch selector cases) = effects_cases cases
  effects_finished s = refl

  effects_cases : (cs : PlainCases) → effects_in_cases cs ≡ effects_in_cases (finished_cases cs)
  effects_cases no_case = refl
  effects_cases (case value body true rest) = ap (λ x. effects_in body ++ x) (effects_cases rest)
  effects_cases (case value body false rest) = λ i. effects_completed body i ++ effects_cases rest i

-- ---- the whole body

carried_there : (b : PlainBlock) (p : Place) (s : PlainStatement) → OccursAt b p s → Carried b (completed b) p s
carried_there b p s e = let k = tail.kept p b s e in kept k.0 k.1 k.2

is_same : (c : PlainBlock) (p : Place) (s t : PlainStatement) → OccursAt c p s → OccursAt c p t → s ≡ t
is_same c p s t e d = let x = sym e ∙ d in cc

carried_back : (b : PlainBlock) (p : Place) (t : PlainStatement) → OccursAt (completed b) p t → Carried (completed b) b p t
carried_back b p t e =
    elim (tail.only p b t e) [
      | inl o ↦ extra (is_same (completed b) p t (return None) e (tail.added b p o)) (open_nothing o) (open_returns [] o refl) (λ q r h k. open_closed o q r h k)
      | inr x ↦ (let k = tail.kept p b x.0 x.1 in kept x.0 x.1 (sym (ap head_of (is_same (completed b) p t k.0 e k.1) ∙ k.2)))
    ]

pub completed_alike : (b : PlainBlock) → Alike b (completed b)
completed_alike b = record {
  there = record { statements = carried_there b; conditions = λ p e h. inl (condition_kept p b e h) };
  back = record { statements = carried_back b; conditions = λ p e h. condition_back p b e h };
  effects = effects_completed b;
}
