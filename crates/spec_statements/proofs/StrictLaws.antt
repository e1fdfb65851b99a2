-- An expression is in strict scope at a place exactly if a walk carries it there that drops what a continue may skip.
use Rattle.std.proofs.Common.{◌≡◌, ℕ, zero, suc, Bool, true, false, ◌||◌, IsTrue, List, [], ◌++◌, ◌⊎◌, inl, inr, ⊎_elim, Contains, refl, sym, ◌∙◌, subst}
use Rattle.std.proofs.lemmas.Bool.{or_cases, or_left, or_right, cases_Bool}
use Rattle.std.proofs.lemmas.List.Elements.{Contains-append_left, Contains-append_right, Contains-append_cases}
use Rattle.ir_blocks.specs.judged.Places.{Place, here, later, inside, condition, IsTop, top_here, top_later, Before, earlier, both_later, both_inside, body_before_continuing, body_before_condition, continuing_before_condition, OccursAt}
use Rattle.ir_blocks.specs.judged.Plain.{PlainStatement, emit, block, if_, switch, loop, break, continue, return, kill, operation, call, PlainBlock, stop, next, PlainCases, no_case, case}
use Rattle.ir_blocks.specs.judged.Shapes.{Part, inner, accepting, rejecting, case_at, loop_body, loop_continuing, shape_of, part_of, case_body}
use Rattle.spec_statements.proofs.ScopeLaws.{none_held, top_held, held_top}
use Rattle.spec_statements.specs.judged.Scope.{Introduces}
use Rattle.spec_statements.specs.judged.Strict.{InNoLoop, IsPast, past_itself, past_within, past_later, LeadsPast, leads_later, leads_inside, to_continuing, to_condition, MaySkip}
use Rattle.spec_statements.specs.found.SureLevel.{entering_by, visible_by, holds_continue_in, holds_continue, holds_continue_in_cases, unless, sure_level, StrictByWalk}
use Rattle.spec_statements.specs.judged.Tables.{introduced}
use Rattle.spec_statements.specs.judged.Visible.{top_level}

not_both : {A : Type 0} (b : Bool) → b ≡ true → b ≡ false → A
not_both b p q = let w : true ≡ false = sym p ∙ q in absurd (cc)

-- ---- continues of the enclosing loop, by places and computed

case_holds : (cases : PlainCases) (k : ℕ) → IsTrue (holds_continue_in (case_body cases k)) → IsTrue (holds_continue_in_cases cases)
case_holds no_case k h = h
case_holds (case v b f r) zero h = or_left _ _ h
case_holds (case v b f r) (suc k) h = or_right (holds_continue_in b) _ (case_holds r k h)

-- an empty block has no places
in_stop : (c : Place) → OccursAt stop c continue → ⊥
in_stop here at = let x = at in cc
in_stop (later c) at = let x = at in cc
in_stop (inside part c) at = let x = at in cc
in_stop condition at = let x = at in cc

empty_part : {A : Type 0} (c : Place) → OccursAt stop c continue → A
empty_part c at = absurd (in_stop c at)

itself : (s : PlainStatement) → OccursAt (next s stop) here continue → IsTrue (holds_continue s)
itself continue at = refl
itself _ at = let x = at in absurd (cc)

place_holds_in : (c : Place) → InNoLoop c → (b : PlainBlock) → OccursAt b c continue → IsTrue (holds_continue_in b)
place_holds_in c free stop at = empty_part c at
place_holds_in here free (next s rest) at = or_left (holds_continue s) _ (itself s at)
place_holds_in (later c) free (next s rest) at = or_right (holds_continue s) _ (place_holds_in c free rest at)
place_holds_in (inside inner c) free (next (block b) rest) at = or_left _ _ (place_holds_in c free b at)
place_holds_in (inside inner c) free (next _ rest) at = empty_part c at
place_holds_in (inside accepting c) free (next (if_ test accept reject) rest) at = or_left _ _ (or_left _ _ (place_holds_in c free accept at))
place_holds_in (inside accepting c) free (next _ rest) at = empty_part c at
place_holds_in (inside rejecting c) free (next (if_ test accept reject) rest) at = or_left _ _ (or_right (holds_continue_in accept) _ (place_holds_in c free reject at))
place_holds_in (inside rejecting c) free (next _ rest) at = empty_part c at
place_holds_in (inside (case_at k) c) free (next (switch selector cases) rest) at = or_left _ _ (case_holds cases k (place_holds_in c free (case_body cases k) at))
place_holds_in (inside (case_at k) c) free (next _ rest) at = empty_part c at
place_holds_in (inside loop_body c) free (next s rest) at = absurd free
place_holds_in (inside loop_continuing c) free (next s rest) at = absurd free
place_holds_in condition free (next s rest) at = absurd free

alone : (b : Bool) → IsTrue (b || false) → IsTrue b
alone true h = refl
alone false h = h

part_holds : (c : Place) (part : Part) → InNoLoop (inside part c) → (s : PlainStatement) → OccursAt (part_of (shape_of s) part) c continue → IsTrue (holds_continue s)
part_holds c part free s at = alone (holds_continue s) (place_holds_in (inside part c) free (next s stop) at)

abbrev Goes : PlainBlock → Type 0
Goes b = (c : Place) × InNoLoop c × OccursAt b c continue

-- in the first statement, so a later place of the top level is after the continue
abbrev GoesFirst : PlainStatement → PlainBlock → Type 0
GoesFirst s rest = (c : Place) × InNoLoop c × OccursAt (next s rest) c continue × ((q : Place) → IsTop q → IsPast c (later q))

mutual
  goes_in : (b : PlainBlock) → IsTrue (holds_continue_in b) → Goes b
  goes_in stop h = absurd (cc)
  goes_in (next s rest) h =
      ⊎_elim (λ own. let x = first_goes s rest own in (x.0, x.1, x.2)) (λ more. let x = goes_in rest more in (later x.0, x.1, x.2)) (or_cases (holds_continue s) _ h)

  first_goes : (s : PlainStatement) (rest : PlainBlock) → IsTrue (holds_continue s) → GoesFirst s rest
  first_goes (emit first end) rest h = absurd (cc)
  first_goes (block b) rest h = let x = goes_in b h in (inside inner x.0, x.1, x.2, λ q top. past_within inner x.1 top)
  first_goes (if_ test accept reject) rest h =
      ⊎_elim (λ l. let x = goes_in accept l in (inside accepting x.0, x.1, x.2, λ q top. past_within accepting x.1 top)) (λ l. let x = goes_in reject l in (inside rejecting x.0, x.1, x.2, λ q top. past_within rejecting x.1 top)) (or_cases (holds_continue_in accept) _ h)
  first_goes (switch selector cases) rest h = let x = goes_case cases h in (inside (case_at x.0) x.1.0, x.1.1, x.1.2, λ q top. past_within (case_at x.0) x.1.1 top)
  first_goes (loop body continuing break_if) rest h = absurd (cc)
  first_goes break rest h = absurd (cc)
  first_goes continue rest h = (here, tt, refl, λ q top. past_itself top)
  first_goes (return value) rest h = absurd (cc)
  first_goes kill rest h = absurd (cc)
  first_goes (operation a) rest h = absurd (cc)
  first_goes (call function arguments result) rest h = absurd (cc)

  goes_case : (cases : PlainCases) → IsTrue (holds_continue_in_cases cases) → (k : ℕ) × Goes (case_body cases k)
  goes_case no_case h = absurd (cc)
  goes_case (case v b f r) h = ⊎_elim (λ l. (zero, goes_in b l)) (λ l. let x = goes_case r l in (suc x.0, x.1)) (or_cases (holds_continue_in b) _ h)

-- ---- what the top level keeps, by places

abbrev Past : PlainBlock → Place → Type 0
Past b q = (c : Place) × IsPast c q × OccursAt b c continue

past_here : (b : PlainBlock) → Past b here → ⊥
past_here b (c, past, at) = elim past [ ]

later_past : (s : PlainStatement) (rest : PlainBlock) (q : Place) → Past rest q → Past (next s rest) (later q)
later_past s rest q (c, past, at) = (later c, past_later past, at)

first_past : (s : PlainStatement) (rest : PlainBlock) (q : Place) → IsTop q → holds_continue s ≡ true → Past (next s rest) (later q)
first_past s rest q top goes = let x = first_goes s rest goes in (x.0, x.3 q top, x.2)

past_rest : (s : PlainStatement) (rest : PlainBlock) (q : Place) → holds_continue s ≡ false → Past (next s rest) (later q) → Past rest q
past_rest s rest q not (c, past, at) = by_past past at
  where
    by_past : {d : Place} → IsPast d (later q) → OccursAt (next s rest) d continue → Past rest q
    by_past (past_itself top) there = not_both (holds_continue s) (itself s there) not
    by_past (past_within {c = d} part free top) there = not_both (holds_continue s) (part_holds d part free s there) not
    by_past (past_later {c = d} more) there = (d, more, there)

left : (b : Bool) (es : List ℕ) (e : ℕ) → b ≡ false → Contains es e → Contains (unless b es) e
left b es e not held = subst (λ c. Contains (unless c es) e) (sym not) held

sure_held : {q : Place} → IsTop q → (b : PlainBlock) (e : ℕ) → Introduces b q e → ¬ Past b q → Contains (sure_level b) e
sure_held top_here stop e brought sure = none_held e brought
sure_held top_here (next s rest) e brought sure = Contains-append_left (introduced s) _ e brought
sure_held (top_later t) stop e brought sure = none_held e brought
sure_held (top_later {q = q} t) (next s rest) e brought sure =
    ⊎_elim
    (λ goes. absurd (sure (first_past s rest q t goes)))
    (λ not. Contains-append_right (introduced s) _ e (left (holds_continue s) (sure_level rest) e not (sure_held t rest e brought (λ past. sure (later_past s rest q past)))))
    (cases_Bool (holds_continue s))

held_sure : (b : PlainBlock) (e : ℕ) → Contains (sure_level b) e → (q : Place) × IsTop q × Introduces b q e × ¬ Past b q
held_sure stop e held = none_held e held
held_sure (next s rest) e held =
    ⊎_elim
    (λ own. (here, top_here, own, past_here (next s rest)))
    (λ more. ⊎_elim
    (λ goes. none_held e (subst (λ c. Contains (unless c (sure_level rest)) e) goes more))
    (λ not. let t = held_sure rest e (subst (λ c. Contains (unless c (sure_level rest)) e) not more) in (later t.0, top_later t.1, t.2, λ past. t.3 (past_rest s rest t.0 not past)))
    (cases_Bool (holds_continue s)))
    (Contains-append_cases (introduced s) _ e held)

-- ---- along a body

abbrev entered_sure : (s : PlainStatement) (part : Part) (outer : List ℕ) (e : ℕ) → Contains outer e → Contains (entering_by sure_level outer s part) e
entered_sure s inner outer e held = held
entered_sure s accepting outer e held = held
entered_sure s rejecting outer e held = held
entered_sure s (case_at k) outer e held = held
entered_sure s loop_body outer e held = held
entered_sure s loop_continuing outer e held = Contains-append_left outer _ e held

outer_sure : (p : Place) (body : PlainBlock) (outer : List ℕ) (e : ℕ) → Contains outer e → Contains (visible_by sure_level outer p body) e
outer_sure here body outer e held = held
outer_sure (later p) stop outer e held = held
outer_sure (later p) (next s rest) outer e held = outer_sure p rest (outer ++ introduced s) e (Contains-append_left outer (introduced s) e held)
outer_sure (inside part p) stop outer e held = held
outer_sure (inside part p) (next s rest) outer e held = outer_sure p (part_of (shape_of s) part) (entering_by sure_level outer s part) e (entered_sure s part outer e held)
outer_sure condition stop outer e held = held
outer_sure condition (next s rest) outer e held = Contains-append_left _ (top_level (part_of (shape_of s) loop_continuing)) e (Contains-append_left outer _ e held)

before_sure : {q p : Place} → Before q p → (body : PlainBlock) (outer : List ℕ) (e : ℕ) → Introduces body q e → ¬ MaySkip body q p → Contains (visible_by sure_level outer p body) e
before_sure (earlier {p = p}) stop outer e brought sure = none_held e brought
before_sure (earlier {p = p}) (next s rest) outer e brought sure = outer_sure p rest (outer ++ introduced s) e (Contains-append_right outer _ e brought)
before_sure (both_later b) stop outer e brought sure = none_held e brought
before_sure (both_later b) (next s rest) outer e brought sure = before_sure b rest (outer ++ introduced s) e brought (λ skips. sure (later skips.0, leads_later skips.1, skips.2))
before_sure (both_inside part b) stop outer e brought sure = none_held e brought
before_sure (both_inside part b) (next s rest) outer e brought sure =
    before_sure b (part_of (shape_of s) part) (entering_by sure_level outer s part) e brought (λ skips. sure (inside part skips.0, leads_inside part skips.1, skips.2))
before_sure (body_before_continuing {p = p} t) stop outer e brought sure = none_held e brought
before_sure (body_before_continuing {p = p} t) (next s rest) outer e brought sure =
    outer_sure p (part_of (shape_of s) loop_continuing) _ e (Contains-append_right outer _ e (sure_held t _ e brought (λ past. sure (inside loop_body past.0, to_continuing past.1, past.2))))
before_sure (body_before_condition t) stop outer e brought sure = none_held e brought
before_sure (body_before_condition t) (next s rest) outer e brought sure =
    Contains-append_left _ _ e (Contains-append_right outer _ e (sure_held t _ e brought (λ past. sure (inside loop_body past.0, to_condition past.1, past.2))))
before_sure (continuing_before_condition t) stop outer e brought sure = none_held e brought
before_sure (continuing_before_condition t) (next s rest) outer e brought sure =
    Contains-append_right (outer ++ sure_level (part_of (shape_of s) loop_body)) _ e (top_held t _ e brought)

abbrev IsSurelyBrought : PlainBlock → Place → ℕ → Type 0
IsSurelyBrought body p e = (q : Place) × Before q p × Introduces body q e × ¬ MaySkip body q p

-- an expression skipped in a nested block is skipped there

skip_later : (s : PlainStatement) (rest : PlainBlock) (q p : Place) → MaySkip (next s rest) (later q) (later p) → MaySkip rest q p
skip_later s rest q p (c, leads, at) = by_leads leads at
  where
    by_leads : {d : Place} → LeadsPast d (later q) (later p) → OccursAt (next s rest) d continue → MaySkip rest q p
    by_leads (leads_later {c = d} more) there = (d, more, there)

skip_here : (b : PlainBlock) (p : Place) → MaySkip b here p → ⊥
skip_here b p (c, leads, at) = elim leads [ ]

inside_leads : (d q p : Place) (a b : Part) → LeadsPast d (inside a q) (inside b p) → a ≡ b → (c : Place) × (d ≡ inside a c) × LeadsPast c q p
inside_leads d q p a b (leads_inside {c = c} part more) same = (c, refl, more)
inside_leads d q p a b (to_continuing past) same = absurd (let x = same in cc)

skip_inside : (s : PlainStatement) (rest : PlainBlock) (part : Part) (q p : Place) → MaySkip (next s rest) (inside part q) (inside part p) → MaySkip (part_of (shape_of s) part) q p
skip_inside s rest part q p (c, leads, at) =
    let x = inside_leads c q p part part leads refl in (x.0, x.2, subst (λ d. OccursAt (next s rest) d continue) x.1 at)

skip_continuing : (s : PlainStatement) (rest : PlainBlock) (q p : Place) → MaySkip (next s rest) (inside loop_body q) (inside loop_continuing p) → Past (part_of (shape_of s) loop_body) q
skip_continuing s rest q p (c, leads, at) = by_leads leads at
  where
    by_leads : {d : Place} → LeadsPast d (inside loop_body q) (inside loop_continuing p) → OccursAt (next s rest) d continue → Past (part_of (shape_of s) loop_body) q
    by_leads (to_continuing {c = d} past) there = (d, past, there)

skip_condition : (s : PlainStatement) (rest : PlainBlock) (q : Place) → MaySkip (next s rest) (inside loop_body q) condition → Past (part_of (shape_of s) loop_body) q
skip_condition s rest q (c, leads, at) = by_leads leads at
  where
    by_leads : {d : Place} → LeadsPast d (inside loop_body q) condition → OccursAt (next s rest) d continue → Past (part_of (shape_of s) loop_body) q
    by_leads (to_condition {c = d} past) there = (d, past, there)

skip_last : (b : PlainBlock) (q : Place) → MaySkip b (inside loop_continuing q) condition → ⊥
skip_last b q (c, leads, at) = elim leads [ ]

sure_brought : (p : Place) (body : PlainBlock) (outer : List ℕ) (e : ℕ) → Contains (visible_by sure_level outer p body) e → Contains outer e ⊎ IsSurelyBrought body p e
sure_brought here body outer e held = inl held
sure_brought (later p) stop outer e held = inl held
sure_brought (later p) (next s rest) outer e held =
    ⊎_elim
    (λ o. ⊎_elim (λ before. inl before) (λ own. inr (here, earlier, own, skip_here (next s rest) (later p))) (Contains-append_cases outer (introduced s) e o))
    (λ found. inr (later found.0, both_later found.1, found.2, λ m. found.3 (skip_later s rest found.0 p m)))
    (sure_brought p rest (outer ++ introduced s) e held)
sure_brought (inside part p) stop outer e held = inl held
sure_brought (inside part p) (next s rest) outer e held =
    ⊎_elim (from_entering part) (λ found. inr (inside part found.0, both_inside part found.1, found.2, λ m. found.3 (skip_inside s rest part found.0 p m)))
    (sure_brought p (part_of (shape_of s) part) (entering_by sure_level outer s part) e held)
  where
    from_entering : (part : Part) → Contains (entering_by sure_level outer s part) e → Contains outer e ⊎ IsSurelyBrought (next s rest) (inside part p) e
    from_entering inner o = inl o
    from_entering accepting o = inl o
    from_entering rejecting o = inl o
    from_entering (case_at k) o = inl o
    from_entering loop_body o = inl o
    from_entering loop_continuing o =
        ⊎_elim (λ before. inl before) (λ t. let q = held_sure (part_of (shape_of s) loop_body) e t in inr (inside loop_body q.0, body_before_continuing q.1, q.2, λ m. q.3 (skip_continuing s rest q.0 p m))) (Contains-append_cases outer _ e o)
sure_brought condition stop outer e held = inl held
sure_brought condition (next s rest) outer e held =
    ⊎_elim
    (λ o. ⊎_elim (λ before. inl before) (λ t. let q = held_sure (part_of (shape_of s) loop_body) e t in inr (inside loop_body q.0, body_before_condition q.1, q.2, λ m. q.3 (skip_condition s rest q.0 m))) (Contains-append_cases outer _ e o))
    (λ t. let q = held_top (part_of (shape_of s) loop_continuing) e t in inr (inside loop_continuing q.0, continuing_before_condition q.1, q.2, skip_last (next s rest) q.0))
    (Contains-append_cases (outer ++ sure_level (part_of (shape_of s) loop_body)) _ e held)

pub strict_by_walk_lem : StrictByWalk
strict_by_walk_lem f p e = (
  λ scope. ⊎_elim (λ pre. inl pre) (λ brought. inr (before_sure brought.1 f.body [] e brought.2 brought.3)) scope,
  λ carried. ⊎_elim (λ pre. inl pre) (λ held. ⊎_elim (λ outer. none_held e outer) (λ brought. inr brought) (sure_brought p f.body [] e held)) carried,
)
