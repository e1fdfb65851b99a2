-- Strict scope, a check of this library's own: every operand is in scope where it is used, excluding what a continue may skip.
use Rattle.std.specs.Prelude.{◌≡◌, ◌⊎◌, ◌<◌, ◌≤◌, ℕ, true, List, ◌∷◌, Some, Contains, slice_get, []}
use Rattle.ir_blocks.specs.judged.Places.{Place, here, later, inside, condition, IsTop, Before, Spot, nothing, statement, loop_condition, spot_at, OccursAt}
use Rattle.ir_blocks.specs.judged.Plain.{PlainStatement, emit, continue, operation, PlainBlock, ray_query, ballot}
use Rattle.ir_blocks.specs.judged.Shapes.{Part, inner, accepting, rejecting, case_at, loop_body, loop_continuing}
use Rattle.ir_blocks.specs.declared.operations.RayQueryFunction.TheVariants.{Proceed}
use Rattle.ir_types.specs.judged.ExpressionPlain.{PlainExpression, plain}
use Rattle.ir_types.specs.declared.expressions.Expression.TheVariants.{RayQueryProceedResult, SubgroupBallotResult}
use Rattle.spec_expressions.specs.IrItems.{PlainFunction}
use Rattle.spec_expressions.specs.judged.ExpressionNames.{expression_operands}
use Rattle.spec_expressions.specs.judged.Operands.{given, looked_up}
use Rattle.spec_expressions.specs.judged.Kinds.{statement_slots}
use Rattle.spec_statements.specs.judged.Scope.{PreEmitted, Introduces}

-- ---- expressions that a continue may skip

-- No loop inside the block contains the place: a continue there continues the loop whose body the block is.
abbrev pub InNoLoop : Place → Type 0
InNoLoop here = Unit {0}
InNoLoop (later p) = InNoLoop p
InNoLoop (inside inner p) = InNoLoop p
InNoLoop (inside accepting p) = InNoLoop p
InNoLoop (inside rejecting p) = InNoLoop p
InNoLoop (inside (case_at k) p) = InNoLoop p
InNoLoop _ = ⊥

-- q is at the top level of a block, and a statement before it there is the one at c, or contains it with no loop in between
pub data IsPast : (c q : Place) → Type 0 where
  past_itself : {q : Place} → IsTop q → IsPast here (later q)
  past_within : {c q : Place} (part : Part) → InNoLoop (inside part c) → IsTop q → IsPast (inside part c) (later q)
  past_later : {c q : Place} → IsPast c q → IsPast (later c) (later q)

-- q is at the top level of a loop's body, p in that loop's continuing block or at its condition, and a continue at c skips q
pub data LeadsPast : (c q p : Place) → Type 0 where
  leads_later : {c q p : Place} → LeadsPast c q p → LeadsPast (later c) (later q) (later p)
  leads_inside : {c q p : Place} (part : Part) → LeadsPast c q p → LeadsPast (inside part c) (inside part q) (inside part p)
  to_continuing : {c q p : Place} → IsPast c q → LeadsPast (inside loop_body c) (inside loop_body q) (inside loop_continuing p)
  to_condition : {c q : Place} → IsPast c q → LeadsPast (inside loop_body c) (inside loop_body q) condition

-- a continue of the body may skip q on the way to p
abbrev pub MaySkip : PlainBlock → (q p : Place) → Type 0
MaySkip b q p = (c : Place) × LeadsPast c q p × OccursAt b c continue

-- always, or a statement before the place has introduced it that no continue may skip
abbrev pub InStrictScope : PlainFunction → Place → ℕ → Type 0
InStrictScope f p e = PreEmitted f e ⊎ ((q : Place) × Before q p × Introduces f.body q e × ¬ MaySkip f.body q p)

-- ---- uses

-- every operand of a statement; a loop's condition is used at its own place, after the continuing block
abbrev pub statement_needed : PlainStatement → List ℕ
statement_needed s = looked_up true (statement_slots s)

abbrev pub needed_at : Spot → List ℕ
needed_at spot = elim spot [ nothing ↦ [] | statement s ↦ statement_needed s | loop_condition break_if ↦ given (break_if ∷ []) ]

-- the statement or condition at the place uses the expression, whether or not it must be in scope without the check
abbrev pub Needs : PlainBlock → Place → ℕ → Type 0
Needs b p e = Contains (needed_at (spot_at p b)) e

-- Every operand of a statement, of a loop's condition and of an emitted expression is in scope there, including earlier handles
-- of the same range; and the result expression of a `Proceed` or of a ballot is of its own kind.
pub record StrictOK (f : PlainFunction) : Type 0 where
  pub used : (p : Place) (o : ℕ) → Needs f.body p o → InStrictScope f p o
  pub emitted : (p : Place) (first end : ℕ) → OccursAt f.body p (emit first end) → (e : ℕ) → first ≤ e → e < end → (x : PlainExpression)
      → slice_get f.expressions e ≡ Some x → (o : ℕ) → Contains (expression_operands x) o → ((first ≤ o) × (o < e)) ⊎ InStrictScope f p o
  pub proceeds : (p : Place) (query result : ℕ) → OccursAt f.body p (operation (ray_query query (Proceed result)))
      → slice_get f.expressions result ≡ Some (plain RayQueryProceedResult)
  pub ballots : (p : Place) (result : ℕ) (predicate : _) → OccursAt f.body p (operation (ballot result predicate))
      → slice_get f.expressions result ≡ Some (plain SubgroupBallotResult)
