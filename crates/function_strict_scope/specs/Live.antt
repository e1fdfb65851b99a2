-- The index of the operands in scope.
use Rattle.std.specs.Prelude.{◌≡◌, ℕ, ◌<◌, true, false, List, Contains, length, slice_get, slice_index_or}
use Rattle.std.specs.Ordering.{nat_cmp}
use Rattle.std.specs.FinSet as set
use Rattle.function_body_checks.specs.Lists.{listed}
use Rattle.ir_items.specs.judged.Plain.{PlainFunction}
use Rattle.function_operand_index.specs.Index.{ArePaired}
use Rattle.spec_statements.specs.judged.Scope.{PreEmitted}
use Rattle.function_strict_scope.specs.Tables.{operands_given}
use Rattle.function_strict_scope.specs.declared.live.LiveOperands.{LiveOperands}

-- the operands of the expression at a handle
abbrev pub operands_at : PlainFunction → ℕ → List ℕ
operands_at f e = operands_given (slice_get f.expressions e)

-- an operand that is not always in scope precedes the expression, and is paired with it
abbrev pub IsPairedAt : PlainFunction → (operands users : List ℕ) → (place o : ℕ) → Type 0
IsPairedAt f operands users place o = ¬ PreEmitted f o → (o < place) × ArePaired operands users o place

-- for an operand of an expression
abbrev pub IsIndexed : PlainFunction → (operands users : List ℕ) → (e o : ℕ) → Type 0
IsIndexed f operands users e o = Contains (operands_at f e) o → IsPairedAt f operands users e o

-- for each operand of the function
pub record IsWhole (f : PlainFunction) (operands users : List ℕ) : Type 0 where
  pub in_step : length users ≡ length operands
  pub indexed : (e o : ℕ) → IsIndexed f operands users e o

-- and the ranges are the scope, and an operand that is not missing is in scope
pub record AreLive (f : PlainFunction) (operands users : List ℕ) (lacking : set.FinSet nat_cmp) (ranges : List (ℕ × ℕ)) (sure : List ℕ) : Type 0 where
  pub indexed : (e o : ℕ) → IsIndexed f operands users e o
  pub brought : listed ranges ≡ sure
  pub there : (k : ℕ) → k < length operands → set.contains lacking k ≡ false → Contains sure (slice_index_or operands k 0)

-- if all operands are indexed
pub record Follows (f : PlainFunction) (live : LiveOperands) (sure : List ℕ) : Type 0 where
  pub are : live.whole ≡ true → AreLive f live.index.operands.items live.index.users.items live.index.lacking live.ranges.items sure
