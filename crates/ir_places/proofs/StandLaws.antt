-- A statement that occurs in a part of a body occurs in the body.
use Rattle.std.proofs.Common.{◌≡◌, ℕ, zero, suc, List, [], ◌∷◌, Some, map, slice_get, refl, sym, subst}
use Rattle.ir_blocks.specs.declared.statements.Block.{Block}
use Rattle.ir_blocks.specs.declared.statements.Statement.{Statement}
use Rattle.ir_blocks.specs.declared.statements.SwitchCase.{SwitchCase}
use Rattle.ir_blocks.specs.found.View.{block_view, case_view, cases_of, statement_view, statements_of, statements_view}
use Rattle.ir_blocks.specs.judged.Places.{Place, here, later, condition, OccursAt}
use Rattle.ir_blocks.specs.judged.Places as at
use Rattle.ir_blocks.specs.judged.Plain.{PlainStatement, switch, PlainBlock, stop, next, PlainCases}
use Rattle.ir_blocks.specs.judged.Shapes.{Part, case_at, case_body, part_of, shape_of}
use Rattle.ir_places.proofs.TrailLaws.{block_is, body_is, leads, placed_then}
use Rattle.ir_places.specs.Paths.{IsPlaced, later_by, place_of}
use Rattle.ir_places.specs.Stands.{StandsAt, StandsFrom, StandsInCase, StandsInPart}
use Rattle.ir_places.specs.declared.trail.Trail.{Trail}

pub none_in_stop : {A : Type 0} (p : Place) (s : PlainStatement) → OccursAt stop p s → A
none_in_stop here s e = let x = e in absurd (cc)
none_in_stop (later p) s e = let x = e in absurd (cc)
none_in_stop (at.inside part p) s e = let x = e in absurd (cc)
none_in_stop condition s e = let x = e in absurd (cc)

module _ (P : PlainStatement → Type 0) where
  -- what occurs in a statement occurs in a block that begins with it
  front : (s : PlainStatement) (rest : PlainBlock) (p : Place) → StandsAt P (next s stop) p → StandsAt P (next s rest) p
  front s rest here h = h
  front s rest (later p) h = none_in_stop p h.0 h.1
  front s rest (at.inside part p) h = h
  front s rest condition h = let x = h.1 in absurd (cc)

  -- and in a block that has it at a later index
  pub further : (items : List Statement) (k : ℕ) (s : Statement) → slice_get items k ≡ Some s → (p : Place) → StandsAt P (next (statement_view s) stop) p → StandsAt P (statements_view items) (later_by k p)
  further [] k s is p h = let x = is in absurd (cc)
  further (x ∷ xs) zero s is p h =
      front (statement_view x) (statements_view xs) p (subst (λ u. StandsAt P (next (statement_view u) stop) p) (let y : s ≡ x = (let z = is in cc) in y) h)
  further (x ∷ xs) (suc k) s is p h = further xs k s is p h

  -- what occurs in a case
  pub in_case : (items : List SwitchCase) (k : ℕ) (c : SwitchCase) → slice_get items k ≡ Some c → (q : Place) → StandsAt P (case_view c).body q → StandsAt P (case_body (cases_of (map case_view items)) k) q
  in_case [] k c is q h = let x = is in absurd (cc)
  in_case (x ∷ xs) zero c is q h =
      let same : c ≡ x = (let y = is in cc) in
      subst (λ u. StandsAt P (case_view u).body q) same h
  in_case (x ∷ xs) (suc k) c is q h = in_case xs k c is q h

-- what occurs in a statement, relative to the block
pub stands_in_block : (t : Trail) (P : PlainStatement → Type 0) (b : Block) (items : List Statement) → items ≡ statements_of b → (k : ℕ) (s : Statement) → slice_get items k ≡ Some s
    → IsPlaced t (StandsFrom P k (statement_view s)) → IsPlaced t (StandsAt P (block_view b))
stands_in_block t P b items of_b k s is h =
    placed_then t (StandsFrom P k (statement_view s)) (StandsAt P (block_view b))
    (λ p x. subst (λ q. StandsAt P (block_view b) q) (sym x.1) (subst (λ y. StandsAt P y (later_by k x.0)) (block_is b items of_b) (further P items k s is x.0 x.2))) h

-- in a case, relative to the switch
pub stands_in_case : (t : Trail) (P : PlainStatement → Type 0) (k : ℕ) (items : List SwitchCase) (n : ℕ) (c : SwitchCase) → slice_get items n ≡ Some c
    → IsPlaced t (StandsInPart P k (case_at n) (block_view c.body)) → IsPlaced t (StandsInCase P k (cases_of (map case_view items)))
stands_in_case t P k items n c is h =
    placed_then t (StandsInPart P k (case_at n) (block_view c.body)) (StandsInCase P k (cases_of (map case_view items)))
    (λ p x. (n, (x.0, x.1, in_case P items n c is x.0 (subst (λ b. StandsAt P b x.0) (body_is c) x.2)))) h

-- in a part, relative to the statement
pub stands_in_part : (t : Trail) (P : PlainStatement → Type 0) (k : ℕ) (part : Part) (s : PlainStatement) (b : PlainBlock) → b ≡ part_of (shape_of s) part
    → IsPlaced t (StandsInPart P k part b) → IsPlaced t (StandsFrom P k s)
stands_in_part t P k part s b is h =
    placed_then t (StandsInPart P k part b) (StandsFrom P k s) (λ p x. (at.inside part x.0, x.1, subst (λ y. StandsAt P y x.0) is x.2)) h

pub stands_in_switch : (t : Trail) (P : PlainStatement → Type 0) (k : ℕ) (s : PlainStatement) (selector : ℕ) (cases : PlainCases) → s ≡ switch selector cases
    → IsPlaced t (StandsInCase P k cases) → IsPlaced t (StandsFrom P k s)
stands_in_switch t P k s selector cases is h =
    placed_then t (StandsInCase P k cases) (StandsFrom P k s)
    (λ p x. subst (λ y. StandsFrom P k y p) (sym is) (at.inside (case_at x.0) x.1.0, x.1.1, x.1.2)) h

-- the statement itself
pub stands_here : (t : Trail) (P : PlainStatement → Type 0) (k : ℕ) (s : PlainStatement) → place_of t ≡ later_by k here → P s → IsPlaced t (StandsFrom P k s)
stands_here t P k s is own = (later_by k here, leads t (later_by k here) is, (here, refl, (s, refl, own)))
