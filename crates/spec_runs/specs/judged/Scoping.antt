-- What a run uses, and when a use is valid.
use Rattle.std.specs.Prelude.{◌≡◌, ◌⊎◌, ℕ, Bool, true, false, IsTrue, List, [], ◌∷◌, ◌++◌, Some, Contains, slice_get}
use Rattle.ir_types.specs.judged.ExpressionPlain.{PlainExpression}
use Rattle.ir_blocks.specs.judged.Places.{Place, Spot, spot_at, OccursAt}
use Rattle.ir_blocks.specs.judged.Plain.{PlainStatement, PlainBlock, next}
use Rattle.ir_items.specs.judged.Plain.{PlainFunction}
use Rattle.spec_statements.specs.judged.Scope.{PreEmitted}
use Rattle.spec_expressions.specs.judged.ExpressionNames.{expression_operands}
use Rattle.spec_statements.specs.judged.Strict.{needed_at}
use Rattle.spec_statements.specs.found.SureLevel.{visible_by, holds_continue, sure_level}
use Rattle.spec_statements.specs.judged.Tables.{checked_at, introduced}
use Rattle.spec_statements.specs.judged.Visible.{top_level}

-- ---- uses

-- The operands whose uses a run records: those of a statement or condition, and those of an expression that is introduced.
pub record UsedOperands : Type 0 where
  pub at_spot : Spot → List ℕ
  pub at_introduction : PlainExpression → List ℕ

-- the operands that must be in scope
abbrev pub checked_operands : UsedOperands
checked_operands = record { at_spot = checked_at; at_introduction = λ x. [] }

-- all operands, including those of introduced expressions
abbrev pub all_operands : UsedOperands
all_operands = record { at_spot = needed_at; at_introduction = expression_operands }

-- ---- valid uses

-- What the top level of a loop's body keeps in scope for its continuing block and its condition, and whether expressions that a
-- continue skipped may be used there.
pub record Scoping : Type 0 where
  pub level : PlainBlock → List ℕ
  pub excuses : Bool

-- the top level keeps all that it introduces, and skipped expressions may be used
abbrev pub with_skipped : Scoping
with_skipped = record { level = top_level; excuses = true }

-- the top level keeps what no continue may skip, and skipped expressions may not be used
abbrev pub without_skipped : Scoping
without_skipped = record { level = sure_level; excuses = false }

-- the expression may be used while these are live and these skipped
abbrev pub IsUsable : Scoping → PlainFunction → (live skipped : List ℕ) → (expression : ℕ) → Type 0
IsUsable g f live skipped e = PreEmitted f e ⊎ (Contains live e ⊎ (IsTrue g.excuses × Contains skipped e))

-- each of these expressions may be used
pub record AreUsable (g : Scoping) (f : PlainFunction) (live skipped expressions : List ℕ) : Type 0 where
  pub each : (e : ℕ) → Contains expressions e → IsUsable g f live skipped e

-- ---- scope at a place

-- Each used expression is always in scope, or in scope where it is used. For an introduced expression, those that the same
-- statement introduced before it are in scope too.
pub record IsScoped (u : UsedOperands) (g : Scoping) (f : PlainFunction) : Type 0 where
  pub at_spots : (p : Place) (o : ℕ) → Contains (u.at_spot (spot_at p f.body)) o → PreEmitted f o ⊎ Contains (visible_by g.level [] p f.body) o
  pub at_introductions : (p : Place) (s : PlainStatement) → OccursAt f.body p s → (before : List ℕ) (e : ℕ) (after : List ℕ) → introduced s ≡ before ++ (e ∷ after)
      → (x : PlainExpression) → slice_get f.expressions e ≡ Some x → (o : ℕ) → Contains (u.at_introduction x) o → PreEmitted f o ⊎ Contains (visible_by g.level [] p f.body ++ before) o

-- ---- lawful levels

-- What the top level keeps is among what it introduces; and of what follows a statement that may continue the loop, and so
-- may be skipped, it keeps something only if skipped expressions may be used.
pub record IsLawful (g : Scoping) : Type 0 where
  pub leaves : (b : PlainBlock) (e : ℕ) → Contains (g.level b) e → Contains (top_level b) e
  pub first : (s : PlainStatement) (rest : PlainBlock) (e : ℕ) → Contains (g.level (next s rest)) e → Contains (introduced s ++ g.level rest) e
  pub skips : (s : PlainStatement) (rest : PlainBlock) (e : ℕ) → holds_continue s ≡ true → Contains (g.level (next s rest)) e → IsTrue g.excuses
