-- Bodies that differ only in returns without a value at open ends.
use Rattle.std.specs.Prelude.{◌≡◌, ◌⊎◌, ℕ, true, Option, None, []}
use Rattle.ir_blocks.specs.judged.Plain.{PlainStatement, return, PlainBlock}
use Rattle.ir_blocks.specs.judged.Places.{Place, Before, nothing, loop_condition, spot_at, OccursAt}
use Rattle.ir_blocks.specs.judged.Control.{returns_in, parts_around}
use Rattle.ir_blocks.specs.judged.Tails.{head_of, completed}
use Rattle.spec_expressions.specs.judged.Effects.{effects_in}
use Rattle.spec_expressions.specs.judged.Positions.{Holds}

-- The statement of the body b at a position is in c at that position too, its nested blocks aside; or it is a return without a
-- value that c lacks, not in a continuing block, and in b nothing follows it or a statement that contains it.
pub data Carried (b c : PlainBlock) (p : Place) (s : PlainStatement) : Type 0 where
  kept : (t : PlainStatement) → OccursAt c p t → head_of t ≡ head_of s → Carried b c p s
  extra : s ≡ return None → spot_at p c ≡ nothing → returns_in (parts_around [] p) ≡ true
      → ((q r : Place) → Holds q p → Before q r → spot_at r b ≡ nothing) → Carried b c p s

-- All of b is in c, except for such returns: each statement, and each `break_if` condition.
pub record IsCarried (b c : PlainBlock) : Type 0 where
  pub statements : (p : Place) (s : PlainStatement) → OccursAt b p s → Carried b c p s
  pub conditions : (p : Place) (e : Option ℕ) → spot_at p b ≡ loop_condition e → (spot_at p c ≡ loop_condition e) ⊎ (e ≡ None)

-- Each has all of the other, except for such returns, and both have the same effects in the same order.
pub record Alike (b c : PlainBlock) : Type 0 where
  pub there : IsCarried b c
  pub back : IsCarried c b
  pub effects : effects_in b ≡ effects_in c

-- a body is alike to the same body with missing returns inserted
abbrev pub CompletedAlike : Type 0
CompletedAlike = (b : PlainBlock) → Alike b (completed b)
