-- The result expressions that the walk carries are those of earlier statements.
use Rattle.std.proofs.Common.{◌++◌, List, ◌≡◌, ℕ, zero, suc, [], ◌⊎◌, inl, inr, ⊎_elim, Option, Some, None, Contains, option_to_list, refl, ap, subst, arith}
use Rattle.std.proofs.lemmas.List.Elements.{Contains-append_left, Contains-append_right, Contains-append_cases, Contains-push_cases}
use Rattle.ir_blocks.specs.judged.Places.{Place, here, later, inside, condition}
use Rattle.ir_blocks.specs.judged.Plain.{PlainStatement, emit, block, if_, switch, loop, break, continue, return, kill, operation, call, PlainBlock, stop, next, PlainCases, no_case, case}
use Rattle.ir_blocks.specs.judged.Shapes.{Part, inner, accepting, rejecting, case_at, loop_body, loop_continuing, shape_of, part_of, case_body}
use Rattle.spec_statements.specs.found.Answered.{answered_in, answered_at, answered_in_cases, answered_before_case, answered_before_part, answered_before, OnceByWalk}
use Rattle.spec_statements.specs.judged.Results.{answer_of, AnswersBy}
use Rattle.spec_statements.proofs.ScopeLaws.{none_held}

given_held : (o : Option ℕ) (e : ℕ) → o ≡ Some e → Contains (option_to_list o) e
given_held None e is = absurd (let x = is in cc)
given_held (Some x) e is = (0, omega arith, let same = is in cc)

held_given : (o : Option ℕ) (e : ℕ) → Contains (option_to_list o) e → o ≡ Some e
held_given None e held = none_held e held
held_given (Some x) e held = ⊎_elim (λ none. none_held e none) (λ same. ap Some same) (Contains-push_cases [] x e held)

-- an empty block has no places
empty : (p : Place) (e : ℕ) → AnswersBy stop p e → ⊥
empty here e by = let x = by.1 in cc
empty (later p) e by = let x = by.1 in cc
empty (inside part p) e by = let x = by.1 in cc
empty condition e by = let x = by.1 in cc

-- ---- the result expressions of a statement and its nested statements

own_held : (s : PlainStatement) (e : ℕ) → answer_of s ≡ Some e → Contains (answered_at s) e
own_held (emit first end) e is = absurd (let x = is in cc)
own_held (block b) e is = absurd (let x = is in cc)
own_held (if_ test accept reject) e is = absurd (let x = is in cc)
own_held (switch selector cases) e is = absurd (let x = is in cc)
own_held (loop body continuing break_if) e is = absurd (let x = is in cc)
own_held break e is = absurd (let x = is in cc)
own_held continue e is = absurd (let x = is in cc)
own_held (return value) e is = absurd (let x = is in cc)
own_held kill e is = absurd (let x = is in cc)
own_held (operation a) e is = given_held _ e is
own_held (call function arguments result) e is = given_held result e is

case_held : (cs : PlainCases) (k e : ℕ) → Contains (answered_in (case_body cs k)) e → Contains (answered_in_cases cs) e
case_held no_case k e held = none_held e held
case_held (case value body falls rest) zero e held = Contains-append_left _ _ e held
case_held (case value body falls rest) (suc k) e held = Contains-append_right (answered_in body) _ e (case_held rest k e held)

part_held : (s : PlainStatement) (part : Part) (e : ℕ) → Contains (answered_in (part_of (shape_of s) part)) e → Contains (answered_at s) e
part_held (emit first end) part e held = none_held e held
part_held (block b) inner e held = held
part_held (block b) _ e held = none_held e held
part_held (if_ test accept reject) accepting e held = Contains-append_left _ _ e held
part_held (if_ test accept reject) rejecting e held = Contains-append_right (answered_in accept) _ e held
part_held (if_ test accept reject) _ e held = none_held e held
part_held (switch selector cases) (case_at k) e held = case_held cases k e held
part_held (switch selector cases) _ e held = none_held e held
part_held (loop body continuing break_if) loop_body e held = Contains-append_left _ _ e held
part_held (loop body continuing break_if) loop_continuing e held = Contains-append_right (answered_in body) _ e held
part_held (loop body continuing break_if) _ e held = none_held e held
part_held break part e held = none_held e held
part_held continue part e held = none_held e held
part_held (return value) part e held = none_held e held
part_held kill part e held = none_held e held
part_held (operation a) part e held = none_held e held
part_held (call function arguments result) part e held = none_held e held

-- the result expression at a place of a block is one of the block's
pub by_held : (p : Place) (b : PlainBlock) (e : ℕ) → AnswersBy b p e → Contains (answered_in b) e
by_held p stop e by = absurd (empty p e by)
by_held here (next s rest) e by = Contains-append_left _ _ e (own_held s e (let at = by.1 in let is = by.2 in cc))
by_held (later p) (next s rest) e by = Contains-append_right (answered_at s) _ e (by_held p rest e by)
by_held (inside part p) (next s rest) e by = Contains-append_left _ _ e (part_held s part e (by_held p (part_of (shape_of s) part) e by))
by_held condition (next s rest) e by = let x = by.1 in cc

-- ---- no two places with the same result expression

-- a statement with nested blocks has no result itself
alone : (s : PlainStatement) (part : Part) (q : Place) (e x : ℕ) → answer_of s ≡ Some e → AnswersBy (part_of (shape_of s) part) q x → ⊥
alone (emit first end) part q e x is by = empty q x by
alone (block b) part q e x is by = cc
alone (if_ test accept reject) part q e x is by = cc
alone (switch selector cases) part q e x is by = cc
alone (loop body continuing break_if) part q e x is by = cc
alone break part q e x is by = empty q x by
alone continue part q e x is by = empty q x by
alone (return value) part q e x is by = empty q x by
alone kill part q e x is by = empty q x by
alone (operation a) part q e x is by = empty q x by
alone (call function arguments result) part q e x is by = empty q x by

-- the result expression of the first statement
first_answer : (s : PlainStatement) (rest : PlainBlock) (e : ℕ) → AnswersBy (next s rest) here e → answer_of s ≡ Some e
first_answer s rest e by = let at = by.1 in let is = by.2 in cc

-- two parts are the same, or the result expressions of one are before the other
pub data Apart (s : PlainStatement) (e : ℕ) : Part → Part → Type 0 where
  same : {part : Part} → Apart s e part part
  earlier_part : {left right : Part} → Contains (answered_before_part s right) e → Apart s e left right
  later_part : {left right : Part} → Contains (answered_before_part s left) e → Apart s e left right

case_before : (cs : PlainCases) (k j e : ℕ) → Contains (answered_in (case_body cs k)) e → Contains (answered_in (case_body cs j)) e
    → (k ≡ j) ⊎ (Contains (answered_before_case cs j) e ⊎ Contains (answered_before_case cs k) e)
case_before no_case k j e left right = none_held e left
case_before (case value body falls rest) zero zero e left right = inl refl
case_before (case value body falls rest) zero (suc j) e left right = inr (inl (Contains-append_left _ _ e left))
case_before (case value body falls rest) (suc k) zero e left right = inr (inr (Contains-append_left _ _ e right))
case_before (case value body falls rest) (suc k) (suc j) e left right =
    ⊎_elim (λ equal. inl (ap suc equal))
    (λ other. inr (⊎_elim (λ before. inl (Contains-append_right (answered_in body) _ e before)) (λ behind. inr (Contains-append_right (answered_in body) _ e behind)) other))
    (case_before rest k j e left right)

case_apart : (selector : ℕ) (cs : PlainCases) (k j e : ℕ) → (k ≡ j) ⊎ (Contains (answered_before_case cs j) e ⊎ Contains (answered_before_case cs k) e) → Apart (switch selector cs) e (case_at k) (case_at j)
case_apart selector cs k j e (inl equal) = subst (λ n. Apart (switch selector cs) e (case_at k) (case_at n)) equal same
case_apart selector cs k j e (inr (inl before)) = earlier_part before
case_apart selector cs k j e (inr (inr behind)) = later_part behind

apart : (s : PlainStatement) (left right : Part) (e : ℕ) → Contains (answered_in (part_of (shape_of s) left)) e → Contains (answered_in (part_of (shape_of s) right)) e → Apart s e left right
apart (emit first end) left right e a b = none_held e a
apart (block body) inner inner e a b = same
apart (block body) inner _ e a b = none_held e b
apart (block body) _ right e a b = none_held e a
apart (if_ test accept reject) accepting accepting e a b = same
apart (if_ test accept reject) accepting rejecting e a b = earlier_part a
apart (if_ test accept reject) rejecting accepting e a b = later_part b
apart (if_ test accept reject) rejecting rejecting e a b = same
apart (if_ test accept reject) accepting _ e a b = none_held e b
apart (if_ test accept reject) rejecting _ e a b = none_held e b
apart (if_ test accept reject) _ right e a b = none_held e a
apart (switch selector cases) (case_at k) (case_at j) e a b = case_apart selector cases k j e (case_before cases k j e a b)
apart (switch selector cases) (case_at k) _ e a b = none_held e b
apart (switch selector cases) _ right e a b = none_held e a
apart (loop body continuing break_if) loop_body loop_body e a b = same
apart (loop body continuing break_if) loop_body loop_continuing e a b = earlier_part a
apart (loop body continuing break_if) loop_continuing loop_body e a b = later_part b
apart (loop body continuing break_if) loop_continuing loop_continuing e a b = same
apart (loop body continuing break_if) loop_body _ e a b = none_held e b
apart (loop body continuing break_if) loop_continuing _ e a b = none_held e b
apart (loop body continuing break_if) _ right e a b = none_held e a
apart break left right e a b = none_held e a
apart continue left right e a b = none_held e a
apart (return value) left right e a b = none_held e a
apart kill left right e a b = none_held e a
apart (operation done) left right e a b = none_held e a
apart (call function arguments result) left right e a b = none_held e a

-- what was seen before stays in the list
seen_held : (p : Place) (b : PlainBlock) (seen : List ℕ) (e : ℕ) → Contains seen e → Contains (answered_before seen p b) e
seen_held here b seen e held = held
seen_held (later p) stop seen e held = held
seen_held (later p) (next s rest) seen e held = seen_held p rest (seen ++ answered_at s) e (Contains-append_left seen _ e held)
seen_held (inside part p) stop seen e held = held
seen_held (inside part p) (next s rest) seen e held = seen_held p (part_of (shape_of s) part) (seen ++ answered_before_part s part) e (Contains-append_left seen _ e held)
seen_held condition stop seen e held = held
seen_held condition (next s rest) seen e held = Contains-append_left seen _ e held

-- and so do the result expressions of a statement after it, and of its earlier parts
seen_later : (p : Place) (s : PlainStatement) (rest : PlainBlock) (seen : List ℕ) (e : ℕ) → Contains (answered_at s) e → Contains (answered_before seen (later p) (next s rest)) e
seen_later p s rest seen e held = seen_held p rest (seen ++ answered_at s) e (Contains-append_right seen _ e held)

seen_inside : (part : Part) (p : Place) (s : PlainStatement) (rest : PlainBlock) (seen : List ℕ) (e : ℕ) → Contains (answered_before_part s part) e → Contains (answered_before seen (inside part p) (next s rest)) e
seen_inside part p s rest seen e held = seen_held p (part_of (shape_of s) part) (seen ++ answered_before_part s part) e (Contains-append_right seen _ e held)

abbrev Unseen : (seen : List ℕ) → PlainBlock → Place → ℕ → Type 0
Unseen seen body p e = Contains (answered_before seen p body) e → ⊥

one_place : (p q : Place) (body : PlainBlock) (left right : List ℕ) (e : ℕ) → AnswersBy body p e → AnswersBy body q e → Unseen left body p e → Unseen right body q e → p ≡ q
one_place p q stop seen known e at by new fresh = absurd (empty p e at)
one_place here here (next s rest) seen known e at by new fresh = refl
one_place here (later q) (next s rest) seen known e at by new fresh = absurd (fresh (seen_later q s rest known e (own_held s e (first_answer s rest e at))))
one_place here (inside part q) (next s rest) seen known e at by new fresh = absurd (alone s part q e e (first_answer s rest e at) by)
one_place (later p) here (next s rest) seen known e at by new fresh = absurd (new (seen_later p s rest seen e (own_held s e (first_answer s rest e by))))
one_place (later p) (later q) (next s rest) seen known e at by new fresh = ap later (one_place p q rest (seen ++ answered_at s) (known ++ answered_at s) e at by new fresh)
one_place (later p) (inside part q) (next s rest) seen known e at by new fresh =
    absurd (new (seen_later p s rest seen e (part_held s part e (by_held q (part_of (shape_of s) part) e by))))
one_place (inside part p) here (next s rest) seen known e at by new fresh = absurd (alone s part p e e (first_answer s rest e by) at)
one_place (inside part p) (later q) (next s rest) seen known e at by new fresh =
    absurd (fresh (seen_later q s rest known e (part_held s part e (by_held p (part_of (shape_of s) part) e at))))
one_place (inside left p) (inside right q) (next s rest) seen known e at by new fresh =
    by_parts (λ part a b. one_place p q (part_of (shape_of s) part) a b e) left right (apart s left right e (by_held p (part_of (shape_of s) left) e at) (by_held q (part_of (shape_of s) right) e by)) at by new fresh
  where
    by_parts : ((part : Part) (a b : List ℕ) → AnswersBy (part_of (shape_of s) part) p e → AnswersBy (part_of (shape_of s) part) q e → Unseen a (part_of (shape_of s) part) p e → Unseen b (part_of (shape_of s) part) q e → p ≡ q)
        → (left right : Part) → Apart s e left right → AnswersBy (part_of (shape_of s) left) p e → AnswersBy (part_of (shape_of s) right) q e
        → Unseen seen (next s rest) (inside left p) e → Unseen known (next s rest) (inside right q) e → inside left p ≡ inside right q
    by_parts again left _ same at by new fresh = ap (inside left) (again left (seen ++ answered_before_part s left) (known ++ answered_before_part s left) at by new fresh)
    by_parts again left right (earlier_part before) at by new fresh = absurd (fresh (seen_inside right q s rest known e before))
    by_parts again left right (later_part before) at by new fresh = absurd (new (seen_inside left p s rest seen e before))
one_place condition q (next s rest) seen known e at by new fresh = let x = at.1 in cc
one_place p condition (next s rest) seen known e at by new fresh = let x = by.1 in cc

-- ---- carried result expressions are those of another place

-- the statement itself, or a nested one
pub data Own : Place → Type 0 where
  own_here : Own here
  own_inside : {part : Part} {q : Place} → Own (inside part q)

pub record AnsweredAt (b : PlainBlock) (e : ℕ) : Type 0 where
  pub place : Place
  pub answers : AnswersBy b place e

pub record OwnAnswer (s : PlainStatement) (rest : PlainBlock) (e : ℕ) : Type 0 where
  pub place : Place
  pub own : Own place
  pub answers : AnswersBy (next s rest) place e

inside_answer : (s : PlainStatement) (rest : PlainBlock) (part : Part) (e : ℕ) → AnsweredAt (part_of (shape_of s) part) e → OwnAnswer s rest e
inside_answer s rest part e found = record { place = inside part found.place; own = own_inside; answers = found.answers }

mutual
  found_in : (b : PlainBlock) (e : ℕ) → Contains (answered_in b) e → AnsweredAt b e
  found_in stop e held = none_held e held
  found_in (next s rest) e held =
      ⊎_elim (λ own. let found = found_at s rest e own in record { place = found.place; answers = found.answers })
      (λ more. let found = found_in rest e more in record { place = later found.place; answers = found.answers })
      (Contains-append_cases (answered_at s) (answered_in rest) e held)

  found_at : (s : PlainStatement) (rest : PlainBlock) (e : ℕ) → Contains (answered_at s) e → OwnAnswer s rest e
  found_at (emit first end) rest e held = none_held e held
  found_at (block b) rest e held = inside_answer (block b) rest inner e (found_in b e held)
  found_at (if_ test accept reject) rest e held =
      ⊎_elim (λ left. inside_answer (if_ test accept reject) rest accepting e (found_in accept e left))
      (λ right. inside_answer (if_ test accept reject) rest rejecting e (found_in reject e right))
      (Contains-append_cases (answered_in accept) (answered_in reject) e held)
  found_at (switch selector cases) rest e held =
      let found = found_case cases e held in inside_answer (switch selector cases) rest (case_at found.0) e found.1
  found_at (loop body continuing break_if) rest e held =
      ⊎_elim (λ left. inside_answer (loop body continuing break_if) rest loop_body e (found_in body e left))
      (λ right. inside_answer (loop body continuing break_if) rest loop_continuing e (found_in continuing e right))
      (Contains-append_cases (answered_in body) (answered_in continuing) e held)
  found_at break rest e held = none_held e held
  found_at continue rest e held = none_held e held
  found_at (return value) rest e held = none_held e held
  found_at kill rest e held = none_held e held
  found_at (operation a) rest e held = record { place = here; own = own_here; answers = (operation a, refl, held_given _ e held) }
  found_at (call function arguments result) rest e held = record { place = here; own = own_here; answers = (call function arguments result, refl, held_given result e held) }

  found_case : (cs : PlainCases) (e : ℕ) → Contains (answered_in_cases cs) e → (k : ℕ) × AnsweredAt (case_body cs k) e
  found_case no_case e held = none_held e held
  found_case (case value body falls rest) e held =
      ⊎_elim (λ first. (zero, found_in body e first)) (λ more. let found = found_case rest e more in (suc found.0, found.1)) (Contains-append_cases (answered_in body) (answered_in_cases rest) e held)

-- at a different place
pub record Elsewhere (b : PlainBlock) (p : Place) (e : ℕ) : Type 0 where
  pub place : Place
  pub answers : AnswersBy b place e
  pub other : place ≡ p → ⊥

own_not_later : (q p : Place) → Own q → q ≡ later p → ⊥
own_not_later _ p own_here is = cc
own_not_later _ p own_inside is = cc

later_is : (q p : Place) → later q ≡ later p → q ≡ p
later_is q p is = cc

inside_is : (left right : Part) (q p : Place) → inside left q ≡ inside right p → (left ≡ right) × (q ≡ p)
inside_is left right q p is = (cc, cc)

not_condition : (b : PlainBlock) (q : Place) (e : ℕ) → AnswersBy b q e → q ≡ condition → ⊥
not_condition stop q e by is = empty q e by
not_condition (next s rest) here e by is = cc
not_condition (next s rest) (later q) e by is = cc
not_condition (next s rest) (inside part q) e by is = cc
not_condition (next s rest) condition e by is = let x = by.1 in cc

-- a result expression in an earlier case
case_earlier : (cs : PlainCases) (k e : ℕ) → Contains (answered_before_case cs k) e → (j : ℕ) × AnsweredAt (case_body cs j) e × (j ≡ k → ⊥)
case_earlier no_case k e held = none_held e held
case_earlier (case value body falls rest) zero e held = none_held e held
case_earlier (case value body falls rest) (suc k) e held =
    ⊎_elim (λ first. (zero, found_in body e first, λ is. let x = is in cc))
    (λ more. let found = case_earlier rest k e more in (suc found.0, found.1, λ is. found.2 (let x = is in cc)))
    (Contains-append_cases (answered_in body) (answered_before_case rest k) e held)

case_is : (j k : ℕ) → case_at j ≡ case_at k → j ≡ k
case_is j k is = cc

part_earlier : (s : PlainStatement) (part : Part) (e : ℕ) → Contains (answered_before_part s part) e → (before : Part) × AnsweredAt (part_of (shape_of s) before) e × (before ≡ part → ⊥)
part_earlier (if_ test accept reject) rejecting e held = (accepting, found_in accept e held, λ is. let x = is in cc)
part_earlier (switch selector cases) (case_at k) e held = let found = case_earlier cases k e held in (case_at found.0, found.1, λ is. found.2 (case_is found.0 k is))
part_earlier (loop body continuing break_if) loop_continuing e held = (loop_body, found_in body e held, λ is. let x = is in cc)
part_earlier _ _ e held = none_held e held

pub answered_elsewhere : (p : Place) (b : PlainBlock) (seen : List ℕ) (e : ℕ) → Contains (answered_before seen p b) e → Contains seen e ⊎ Elsewhere b p e
answered_elsewhere here b seen e held = inl held
answered_elsewhere (later p) stop seen e held = inl held
answered_elsewhere (later p) (next s rest) seen e held =
    ⊎_elim
    (λ known. ⊎_elim (λ old. inl old)
    (λ own. let found = found_at s rest e own in inr (record { place = found.place; answers = found.answers; other = own_not_later found.place p found.own }))
    (Contains-append_cases seen (answered_at s) e known))
    (λ found. inr (record { place = later found.place; answers = found.answers; other = λ is. found.other (later_is found.place p is) }))
    (answered_elsewhere p rest (seen ++ answered_at s) e held)
answered_elsewhere (inside part p) stop seen e held = inl held
answered_elsewhere (inside part p) (next s rest) seen e held =
    ⊎_elim
    (λ known. ⊎_elim (λ old. inl old)
    (λ before. let found = part_earlier s part e before in inr (record { place = inside found.0 found.1.place; answers = found.1.answers; other = λ is. found.2 (inside_is found.0 part found.1.place p is).0 }))
    (Contains-append_cases seen (answered_before_part s part) e known))
    (λ found. inr (record { place = inside part found.place; answers = found.answers; other = λ is. found.other (inside_is part part found.place p is).1 }))
    (answered_elsewhere p (part_of (shape_of s) part) (seen ++ answered_before_part s part) e held)
answered_elsewhere condition stop seen e held = inl held
answered_elsewhere condition (next s rest) seen e held =
    ⊎_elim (λ old. inl old)
    (λ own. let found = found_at s rest e own in inr (record { place = found.place; answers = found.answers; other = not_condition (next s rest) found.place e found.answers }))
    (Contains-append_cases seen (answered_at s) e held)

pub once_by_walk_lem : OnceByWalk
once_by_walk_lem body = (
  λ none p q e at by. one_place p q body [] [] e at by (none p e at) (none q e by),
  λ once p e by held. ⊎_elim (λ old. none_held e old) (λ found. found.other (once found.place p e found.answers by)) (answered_elsewhere p body [] e held),
)
