-- The expressions that the walk carries to a place are those introduced before it.
use Rattle.std.proofs.Common.{ℕ, List, [], ◌++◌, ◌⊎◌, inl, inr, ⊎_elim, Contains, arith}
use Rattle.std.proofs.lemmas.List.Elements.{Contains-append_left, Contains-append_right, Contains-append_cases}
use Rattle.ir_blocks.specs.judged.Places.{Place, here, later, inside, condition, IsTop, top_here, top_later, Before, earlier, both_later, both_inside, body_before_continuing, body_before_condition, continuing_before_condition}
use Rattle.ir_blocks.specs.judged.Plain.{PlainStatement, PlainBlock, stop, next}
use Rattle.ir_blocks.specs.judged.Shapes.{Part, inner, accepting, rejecting, case_at, loop_body, loop_continuing, shape_of, part_of}
use Rattle.spec_statements.specs.judged.Scope.{Introduces}
use Rattle.spec_statements.specs.judged.Tables.{introduced}
use Rattle.spec_statements.specs.judged.Visible.{top_level, entering, visible, ScopeByWalk}

pub none_held : {A : Type 0} (e : ℕ) → Contains [] e → A
none_held e held = absurd (omega (arith, held.1))

-- expressions in scope at the start of a nested block are in scope in it
abbrev entered_from : (s : PlainStatement) (part : Part) (outer : List ℕ) (e : ℕ) → Contains outer e → Contains (entering outer s part) e
entered_from s inner outer e held = held
entered_from s accepting outer e held = held
entered_from s rejecting outer e held = held
entered_from s (case_at k) outer e held = held
entered_from s loop_body outer e held = held
entered_from s loop_continuing outer e held = Contains-append_left outer _ e held

-- the scope only grows on the way to a place
outer_visible : (p : Place) (body : PlainBlock) (outer : List ℕ) (e : ℕ) → Contains outer e → Contains (visible outer p body) e
outer_visible here body outer e held = held
outer_visible (later p) stop outer e held = held
outer_visible (later p) (next s rest) outer e held = outer_visible p rest (outer ++ introduced s) e (Contains-append_left outer (introduced s) e held)
outer_visible (inside part p) stop outer e held = held
outer_visible (inside part p) (next s rest) outer e held = outer_visible p (part_of (shape_of s) part) (entering outer s part) e (entered_from s part outer e held)
outer_visible condition stop outer e held = held
outer_visible condition (next s rest) outer e held =
    Contains-append_left _ (top_level (part_of (shape_of s) loop_continuing)) e (Contains-append_left outer _ e held)

-- the introductions at the top level of a body, by places and as a list
pub top_held : {q : Place} → IsTop q → (body : PlainBlock) (e : ℕ) → Introduces body q e → Contains (top_level body) e
top_held top_here stop e brought = none_held e brought
top_held top_here (next s rest) e brought = Contains-append_left (introduced s) _ e brought
top_held (top_later t) stop e brought = none_held e brought
top_held (top_later t) (next s rest) e brought = Contains-append_right (introduced s) _ e (top_held t rest e brought)

pub held_top : (body : PlainBlock) (e : ℕ) → Contains (top_level body) e → (q : Place) × IsTop q × Introduces body q e
held_top stop e held = none_held e held
held_top (next s rest) e held =
    ⊎_elim (λ own. (here, top_here, own)) (λ more. let t = held_top rest e more in (later t.0, top_later t.1, t.2)) (Contains-append_cases (introduced s) (top_level rest) e held)

-- an expression introduced before a place is carried to it
before_visible : {q p : Place} → Before q p → (body : PlainBlock) (outer : List ℕ) (e : ℕ) → Introduces body q e → Contains (visible outer p body) e
before_visible (earlier {p = p}) stop outer e brought = none_held e brought
before_visible (earlier {p = p}) (next s rest) outer e brought = outer_visible p rest (outer ++ introduced s) e (Contains-append_right outer _ e brought)
before_visible (both_later b) stop outer e brought = none_held e brought
before_visible (both_later b) (next s rest) outer e brought = before_visible b rest (outer ++ introduced s) e brought
before_visible (both_inside part b) stop outer e brought = none_held e brought
before_visible (both_inside part b) (next s rest) outer e brought = before_visible b (part_of (shape_of s) part) (entering outer s part) e brought
before_visible (body_before_continuing {p = p} t) stop outer e brought = none_held e brought
before_visible (body_before_continuing {p = p} t) (next s rest) outer e brought =
    outer_visible p (part_of (shape_of s) loop_continuing) _ e (Contains-append_right outer _ e (top_held t _ e brought))
before_visible (body_before_condition t) stop outer e brought = none_held e brought
before_visible (body_before_condition t) (next s rest) outer e brought =
    Contains-append_left _ _ e (Contains-append_right outer _ e (top_held t _ e brought))
before_visible (continuing_before_condition t) stop outer e brought = none_held e brought
before_visible (continuing_before_condition t) (next s rest) outer e brought =
    Contains-append_right (outer ++ top_level (part_of (shape_of s) loop_body)) _ e (top_held t _ e brought)

abbrev IsBrought : PlainBlock → Place → ℕ → Type 0
IsBrought body p e = (q : Place) × Before q p × Introduces body q e

-- and an expression carried to a place was in scope before the body, or is introduced before the place
visible_brought : (p : Place) (body : PlainBlock) (outer : List ℕ) (e : ℕ) → Contains (visible outer p body) e → Contains outer e ⊎ IsBrought body p e
visible_brought here body outer e held = inl held
visible_brought (later p) stop outer e held = inl held
visible_brought (later p) (next s rest) outer e held =
    ⊎_elim
    (λ o. ⊎_elim (λ before. inl before) (λ own. inr (here, earlier, own)) (Contains-append_cases outer (introduced s) e o))
    (λ found. inr (later found.0, both_later found.1, found.2))
    (visible_brought p rest (outer ++ introduced s) e held)
visible_brought (inside part p) stop outer e held = inl held
visible_brought (inside part p) (next s rest) outer e held =
    ⊎_elim (from_entering part) (λ found. inr (inside part found.0, both_inside part found.1, found.2))
    (visible_brought p (part_of (shape_of s) part) (entering outer s part) e held)
  where
    from_entering : (part : Part) → Contains (entering outer s part) e → Contains outer e ⊎ IsBrought (next s rest) (inside part p) e
    from_entering inner o = inl o
    from_entering accepting o = inl o
    from_entering rejecting o = inl o
    from_entering (case_at k) o = inl o
    from_entering loop_body o = inl o
    from_entering loop_continuing o =
        ⊎_elim (λ before. inl before) (λ t. let q = held_top (part_of (shape_of s) loop_body) e t in inr (inside loop_body q.0, body_before_continuing q.1, q.2)) (Contains-append_cases outer _ e o)
visible_brought condition stop outer e held = inl held
visible_brought condition (next s rest) outer e held =
    ⊎_elim
    (λ o. ⊎_elim (λ before. inl before) (λ t. let q = held_top (part_of (shape_of s) loop_body) e t in inr (inside loop_body q.0, body_before_condition q.1, q.2)) (Contains-append_cases outer _ e o))
    (λ t. let q = held_top (part_of (shape_of s) loop_continuing) e t in inr (inside loop_continuing q.0, continuing_before_condition q.1, q.2))
    (Contains-append_cases (outer ++ top_level (part_of (shape_of s) loop_body)) _ e held)

pub scope_by_walk_lem : ScopeByWalk
scope_by_walk_lem f p e = (
  λ scope. ⊎_elim (λ pre. inl pre) (λ brought. inr (before_visible brought.1 f.body [] e brought.2)) scope,
  λ carried. ⊎_elim (λ pre. inl pre) (λ held. ⊎_elim (λ outer. none_held e outer) (λ brought. inr brought) (visible_brought p f.body [] e held)) carried,
)
