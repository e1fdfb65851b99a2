-- The first of several items that is rejected.
use Rattle.std.specs.Prelude.{ℕ, ◌<◌}

-- Of this many items the one at the index is rejected, and each before it is accepted.
pub record FailsFirst (count : ℕ) (OK : (item : ℕ) → Type 0) (index : ℕ) : Type 0 where
  pub within : index < count
  pub before : (other : ℕ) → other < index → OK other
  pub fails : ¬ OK index
