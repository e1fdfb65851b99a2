-- What a walk carries to a place is what stands around it.
use Rattle.std.proofs.Common.{◌≡◌, zero, suc, ℕ, ◌+◌, ◌<◌, ◌≤◌, length, drop, get_or, arith, Option, slice_get, map, false, List, [], ◌∷◌, Some, None, IsTrue, refl, sym, ap, ◌∙◌, subst}
use Rattle.std.proofs.Math.Seq.{drop-cons}
use Rattle.std.proofs.lemmas.List.{drop_all}
use Rattle.ir_blocks.specs.declared.statements.Block.{Block}
use Rattle.ir_blocks.specs.declared.statements.Statement.{Statement}
use Rattle.ir_blocks.specs.declared.statements.SwitchCase.{SwitchCase}
use Rattle.ir_blocks.specs.found.View.{statement_view, block_view, case_view, statements_of, statements_view, cases_of}
use Rattle.ir_blocks.specs.judged.Control.{breaks_in, continues_in, returns_in, may_leave, parts_around, ControlOK}
use Rattle.ir_blocks.specs.judged.Places.{Place, here, later, condition, OccursAt, statement}
use Rattle.ir_blocks.specs.judged.Places as at
use Rattle.ir_blocks.specs.judged.Plain.{PlainStatement, emit, block, if_, switch, loop, break, continue, return, kill, operation, call, PlainBlock, stop, next, PlainCases, no_case, case}
use Rattle.ir_blocks.specs.judged.Shapes.{Exit, breaks, continues, returns, kills, exit_of, shape_of, Part, inner, accepting, rejecting, case_at, loop_body, loop_continuing, case_body, part_of}
use Rattle.ir_places.proofs.StandLaws.{further, in_case, none_in_stop}
use Rattle.ir_places.proofs.TrailLaws.{block_is, body_is, leads, placed_then}
use Rattle.ir_places.specs.Paths.{IsPlaced, later_by, place_of}
use Rattle.ir_places.specs.Stands.{StandsAt}
use Rattle.ir_places.specs.declared.trail.Trail.{Trail}
use Rattle.function_body_checks.specs.Allowed.{MayLeave, in_body, inside, at_place, allows, AllLeave, LeavesWithin, CasesLeave, error_of, IsExitError, LeavesBadly, LeftAt, LeftFrom, LeftInPart, LeftInCase}
use Rattle.function_body_checks.specs.ControlFaults.{IsLeftWrongly, IsControlFaultAt}
use Rattle.function_body_checks.specs.declared.allowed.Wrong.{Wrong}
use Rattle.function_body_checks.specs.declared.allowed.Wrong.TheVariants as wrong

-- ---- what is carried, and what stands around

pub record Agrees (m : MayLeave) (outer : List Part) : Type 0 where
  pub by_break : m.by_break ≡ breaks_in outer
  pub by_continue : m.by_continue ≡ continues_in outer
  pub by_return : m.by_return ≡ returns_in outer

agree_inside : (part : Part) (m : MayLeave) (outer : List Part) → Agrees m outer → Agrees (inside part m) (part ∷ outer)
agree_inside inner m outer a = record { by_break = a.by_break; by_continue = a.by_continue; by_return = a.by_return }
agree_inside accepting m outer a = record { by_break = a.by_break; by_continue = a.by_continue; by_return = a.by_return }
agree_inside rejecting m outer a = record { by_break = a.by_break; by_continue = a.by_continue; by_return = a.by_return }
agree_inside (case_at k) m outer a = record { by_break = refl; by_continue = a.by_continue; by_return = a.by_return }
agree_inside loop_body m outer a = record { by_break = refl; by_continue = refl; by_return = a.by_return }
agree_inside loop_continuing m outer a = record { by_break = refl; by_continue = refl; by_return = refl }

agree_at : (p : Place) (m : MayLeave) (outer : List Part) → Agrees m outer → Agrees (at_place m p) (parts_around outer p)
agree_at here m outer a = a
agree_at (later p) m outer a = agree_at p m outer a
agree_at (at.inside part p) m outer a = agree_at p (inside part m) (part ∷ outer) (agree_inside part m outer a)
agree_at condition m outer a = a

same_exit : (exit : Exit) (m : MayLeave) (outer : List Part) → Agrees m outer → allows m exit ≡ may_leave exit outer
same_exit breaks m outer a = a.by_break
same_exit continues m outer a = a.by_continue
same_exit returns m outer a = a.by_return
same_exit kills m outer a = refl

in_body_agrees : Agrees in_body []
in_body_agrees = record { by_break = refl; by_continue = refl; by_return = refl }

same_at : (exit : Exit) (p : Place) → allows (at_place in_body p) exit ≡ may_leave exit (parts_around [] p)
same_at exit p = same_exit exit (at_place in_body p) (parts_around [] p) (agree_at p in_body [] in_body_agrees)

-- ---- all leave as they may

no_exit : {A : Type 0} (exit : Exit) → None ≡ Some exit → A
no_exit exit is = let x = is in absurd (cc)

one_exit : (exit other : Exit) (m : MayLeave) → IsTrue (allows m exit) → Some exit ≡ Some other → IsTrue (allows m other)
one_exit exit other m h is = subst (λ x. IsTrue (allows m x)) (let y : exit ≡ other = (let x = is in cc) in y) h

own_leaves : (m : MayLeave) (s : PlainStatement) (exit : Exit) → LeavesWithin m s → exit_of (shape_of s) ≡ Some exit → IsTrue (allows m exit)
own_leaves m (emit first end) exit h is = no_exit exit is
own_leaves m (block b) exit h is = no_exit exit is
own_leaves m (if_ test accept reject) exit h is = no_exit exit is
own_leaves m (switch selector cases) exit h is = no_exit exit is
own_leaves m (loop body continuing break_if) exit h is = no_exit exit is
own_leaves m break exit h is = one_exit breaks exit m h is
own_leaves m continue exit h is = one_exit continues exit m h is
own_leaves m (return value) exit h is = one_exit returns exit m h is
own_leaves m kill exit h is = one_exit kills exit m refl is
own_leaves m (operation a) exit h is = no_exit exit is
own_leaves m (call function arguments answer) exit h is = no_exit exit is

case_leaves : (m : MayLeave) (cs : PlainCases) (k : ℕ) → CasesLeave m cs → AllLeave m (case_body cs k)
case_leaves m no_case k h = tt
case_leaves m (case value body falls rest) zero h = h.0
case_leaves m (case value body falls rest) (suc k) h = case_leaves m rest k h.1

part_leaves : (m : MayLeave) (s : PlainStatement) (part : Part) → LeavesWithin m s → AllLeave (inside part m) (part_of (shape_of s) part)
part_leaves m (emit first end) part h = tt
part_leaves m (block b) inner h = h
part_leaves m (block b) _ h = tt
part_leaves m (if_ test accept reject) accepting h = h.0
part_leaves m (if_ test accept reject) rejecting h = h.1
part_leaves m (if_ test accept reject) _ h = tt
part_leaves m (switch selector cases) (case_at k) h = case_leaves (inside (case_at 0) m) cases k h
part_leaves m (switch selector cases) _ h = tt
part_leaves m (loop body continuing break_if) loop_body h = h.0
part_leaves m (loop body continuing break_if) loop_continuing h = h.1
part_leaves m (loop body continuing break_if) _ h = tt
part_leaves m break part h = tt
part_leaves m continue part h = tt
part_leaves m (return value) part h = tt
part_leaves m kill part h = tt
part_leaves m (operation a) part h = tt
part_leaves m (call function arguments answer) part h = tt

leaves_at : (p : Place) (m : MayLeave) (b : PlainBlock) → AllLeave m b → (s : PlainStatement) (exit : Exit) → OccursAt b p s → exit_of (shape_of s) ≡ Some exit → IsTrue (allows (at_place m p) exit)
leaves_at p m stop h s exit stands is = none_in_stop p s stands
leaves_at here m (next u rest) h s exit stands is =
    let same : u ≡ s = (let x = stands in cc) in own_leaves m u exit h.0 (ap (λ x. exit_of (shape_of x)) same ∙ is)
leaves_at (later p) m (next u rest) h s exit stands is = leaves_at p m rest h.1 s exit stands is
leaves_at (at.inside part p) m (next u rest) h s exit stands is = leaves_at p (inside part m) (part_of (shape_of u) part) (part_leaves m u part h.0) s exit stands is
leaves_at condition m (next u rest) h s exit stands is = let x = stands in absurd (cc)

pub control_fine : (b : PlainBlock) → AllLeave in_body b → ControlOK b
control_fine b h p s exit stands is = subst IsTrue (same_at exit p) (leaves_at p in_body b h s exit stands is)

-- ---- one leaves as it may not

place_later : (k : ℕ) (m : MayLeave) (p : Place) → at_place m (later_by k p) ≡ at_place m p
place_later zero m p = refl
place_later (suc k) m p = place_later k m p

-- of a statement, of the block that has it
pub left_in_block : (t : Trail) (e : Wrong) (m : MayLeave) (b : Block) (items : List Statement) → items ≡ statements_of b → (k : ℕ) (s : Statement) → slice_get items k ≡ Some s
    → IsPlaced t (LeftFrom e m k (statement_view s)) → IsPlaced t (LeftAt e m (block_view b))
left_in_block t e m b items of_b k s is =
    placed_then t (LeftFrom e m k (statement_view s)) (LeftAt e m (block_view b))
    (λ p h.
    let P = LeavesBadly e (at_place m h.0) in
    let there : StandsAt P (block_view b) (later_by k h.0) = subst (λ x. StandsAt P x (later_by k h.0)) (block_is b items of_b) (further P items k s is h.0 h.2) in
    subst (LeftAt e m (block_view b)) (sym h.1)
    (subst (λ x. StandsAt (LeavesBadly e x) (block_view b) (later_by k h.0)) (sym (place_later k m h.0)) there))

-- of a case, of the switch
pub left_in_case : (t : Trail) (e : Wrong) (m : MayLeave) (k : ℕ) (items : List SwitchCase) (n : ℕ) (c : SwitchCase) → slice_get items n ≡ Some c
    → IsPlaced t (LeftInPart e m k (case_at n) (block_view c.body)) → IsPlaced t (LeftInCase e m k (cases_of (map case_view items)))
left_in_case t e m k items n c is =
    placed_then t (LeftInPart e m k (case_at n) (block_view c.body)) (LeftInCase e m k (cases_of (map case_view items)))
    (λ p h. (n, (h.0, h.1, in_case (LeavesBadly e (at_place m h.0)) items n c is h.0 (subst (λ b. LeftAt e m b h.0) (body_is c) h.2))))

-- of a part, of the statement
pub left_in_part : (t : Trail) (e : Wrong) (m : MayLeave) (k : ℕ) (part : Part) (s : PlainStatement) (b : PlainBlock) → b ≡ part_of (shape_of s) part
    → IsPlaced t (LeftInPart e (inside part m) k part b) → IsPlaced t (LeftFrom e m k s)
left_in_part t e m k part s b is =
    placed_then t (LeftInPart e (inside part m) k part b) (LeftFrom e m k s) (λ p h. (at.inside part h.0, h.1, subst (λ x. LeftAt e (inside part m) x h.0) is h.2))

-- the statement itself
pub left_here : (t : Trail) (e : Wrong) (m : MayLeave) (k : ℕ) (s : PlainStatement) → place_of t ≡ later_by k here → LeavesBadly e m s → IsPlaced t (LeftFrom e m k s)
left_here t e m k s is bad = (later_by k here, leads t (later_by k here) is, (here, refl, (s, refl, bad)))

pub bad_break : (m : MayLeave) (s : PlainStatement) → s ≡ break → m.by_break ≡ false → LeavesBadly wrong.Break m s
bad_break m s is refused = subst (LeavesBadly wrong.Break m) (sym is) (record { exit = breaks; leaves = refl; told = tt; refused = refused })

pub bad_continue : (m : MayLeave) (s : PlainStatement) → s ≡ continue → m.by_continue ≡ false → LeavesBadly wrong.Continue m s
bad_continue m s is refused = subst (LeavesBadly wrong.Continue m) (sym is) (record { exit = continues; leaves = refl; told = tt; refused = refused })

pub bad_return : (m : MayLeave) (s : PlainStatement) (value : Option ℕ) → s ≡ return value → m.by_return ≡ false → LeavesBadly wrong.Return m s
bad_return m s value is refused = subst (LeavesBadly wrong.Return m) (sym is) (record { exit = returns; leaves = refl; told = tt; refused = refused })

-- ---- a list gone through by an index

pub none_left : (m : MayLeave) (items : List Statement) (i : ℕ) → length items ≤ i → (AllLeave m (statements_view (drop i items)) → AllLeave m (statements_view items)) → AllLeave m (statements_view items)
none_left m items i past leads = leads (subst (λ x. AllLeave m (statements_view x)) (sym (drop_all i items past)) tt)

pub case_more : (m : MayLeave) (items : List SwitchCase) (i : ℕ) (c : SwitchCase) → i < length items → c ≡ get_or items i c → AllLeave m (block_view c.body)
    → CasesLeave m (cases_of (map case_view (drop (i + 1) items))) → CasesLeave m (cases_of (map case_view (drop i items)))
case_more m items i c within is own rest =
    subst (λ x. CasesLeave m (cases_of (map case_view x))) (sym (drop-cons items i c within))
    (subst (λ x. AllLeave m (case_view x).body) is (subst (AllLeave m) (body_is c) own), subst (λ k. CasesLeave m (cases_of (map case_view (drop k items)))) (let e : i + 1 ≡ suc i = omega arith in e) rest)

-- ---- as errors of functions

told_as : (b : PlainBlock) (p : Place) (exit : Exit) (e : Wrong) → IsExitError exit e → IsLeftWrongly b p exit → IsControlFaultAt b (error_of e) p
told_as b p breaks wrong.Break told bad = bad
told_as b p continues wrong.Continue told bad = bad
told_as b p returns wrong.Return told bad = bad
told_as b p _ _ told bad = absurd told

pub control_wrong : (t : Trail) (b : PlainBlock) (e : Wrong) → IsPlaced t (LeftAt e in_body b) → IsPlaced t (IsControlFaultAt b (error_of e))
control_wrong t b e =
    placed_then t (LeftAt e in_body b) (IsControlFaultAt b (error_of e))
    (λ p found. told_as b p found.2.exit e found.2.told (record { statement = found.0; stands = found.1; leaves = found.2.leaves; refused = sym (same_at found.2.exit p) ∙ found.2.refused }))
