-- The index from operands to the statements that use them.
use Rattle.std.specs.Prelude.{◌≡◌, ℕ, ◌<◌, ◌≤◌, true, List, length, slice_index_or}
use Rattle.std.specs.Ordering.{nat_cmp}
use Rattle.std.specs.FinSet as set

-- the pair at an index has a user of the range and an operand before it that may be missing
pub record IsNeeded (operands users : List ℕ) (lacking : set.FinSet nat_cmp) (first end place : ℕ) : Type 0 where
  pub within : place < length operands
  pub lacks : set.contains lacking place ≡ true
  pub from : first ≤ slice_index_or users place 0
  pub below : slice_index_or users place 0 < end
  pub before : slice_index_or operands place 0 < first

-- an operand and its user are one of the pairs
pub record ArePaired (operands users : List ℕ) (operand user : ℕ) : Type 0 where
  pub place : ℕ
  pub within : place < length operands
  pub used_by : slice_index_or users place 0 ≡ user
  pub uses : slice_index_or operands place 0 ≡ operand
