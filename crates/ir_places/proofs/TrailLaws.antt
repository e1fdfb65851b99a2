-- The place after a step is added, and the statements and cases at an index.
use Rattle.std.proofs.Common.{◌≡◌, ◌+◌, ◌++◌, arith, false, ℕ, zero, suc, List, [], ◌∷◌, Some, length, get_or, ◌<◌, ◌∙◌, ap, rules, slice_get, refl, sym}
use Rattle.std.proofs.lemmas.Option.{slice_get-get_or}
use Rattle.ir_blocks.proofs.TerminatorLemmas.{block_view-statements}
use Rattle.ir_blocks.specs.declared.statements.Block.{Block}
use Rattle.ir_blocks.specs.declared.statements.Statement.{Statement, the_lemmas}
use Rattle.ir_blocks.specs.declared.statements.SwitchCase.{SwitchCase}
use Rattle.ir_blocks.specs.found.View.{block_view, case_view, statements_of, statements_view}
use Rattle.ir_blocks.specs.judged.Places.{Place, later}
use Rattle.ir_places.specs.Paths.{IsPlaced, LeadsTo, later_by, place_along, place_of, stepped}
use Rattle.ir_places.specs.declared.step.Step.{Step}
use Rattle.ir_places.specs.declared.trail.Trail.{Trail}

-- one more step at the end of the steps
pub one_more : (steps : List Step) (s : Step) (p : Place) → place_along (steps ++ s ∷ []) p ≡ stepped s (place_along steps p)
one_more [] s p = refl
one_more (x ∷ xs) s p = one_more xs s (stepped x p)

-- ---- the place that many statements later

later_same : (k : ℕ) (q : Place) → later_by k (later q) ≡ later (later_by k q)
later_same zero q = refl
later_same (suc k) q = ap later (later_same k q)

pub later_more : (k : ℕ) (q : Place) → later_by k (later q) ≡ later_by (k + 1) q
later_more k q = later_same k q ∙ ap (λ n. later_by n q) (let e : suc k ≡ k + 1 = omega arith in e)

-- ---- the place of a trail

-- a trail that has just been recorded
pub leads : (t : Trail) (p : Place) → place_of t ≡ p → LeadsTo t p
leads t p is = λ kept. is

-- a property of any place
pub placed : (t : Trail) (P : Place → Type 0) → P (place_of t) → IsPlaced t P
placed t P h = (place_of t, λ kept. refl, h)

pub placed_then : (t : Trail) (P Q : Place → Type 0) → ((p : Place) → P p → Q p) → IsPlaced t P → IsPlaced t Q
placed_then t P Q then h = (h.0, h.1, then h.0 h.2)

-- relative to the enclosing block
pub stepped_out : (t was : Trail) (s : Step) (P Q : Place → Type 0) → (t.lost ≡ false → (was.lost ≡ false) × (place_of t ≡ stepped s (place_of was))) → IsPlaced was P → ((q : Place) → P q → Q (stepped s q)) → IsPlaced t Q
stepped_out t was s P Q steps h out = (stepped s h.0, λ kept. let found = steps kept in found.1 ∙ ap (stepped s) (h.1 found.0), out h.0 h.2)

-- ---- the statements of blocks and the cases of switches

pub block_is : (b : Block) (items : List Statement) → items ≡ statements_of b → statements_view items ≡ block_view b
block_is b items is = ap statements_view is ∙ sym (block_view-statements b)

pub body_is : (c : SwitchCase) → block_view c.body ≡ (case_view c).body
body_is c = search (rules, the_lemmas)

-- the item at an index
pub item_at : {A : Type 0} (items : List A) (i : ℕ) (x : A) → i < length items → x ≡ get_or items i x → slice_get items i ≡ Some x
item_at items i x within is = slice_get-get_or items i x within ∙ ap Some (sym is)
