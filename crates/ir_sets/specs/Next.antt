-- The next index that passes a test, for each index.
use Rattle.std.specs.Prelude.{◌≡◌, ℕ, ◌<◌, ◌≤◌, Bool, true, false, List, length, slice_index_or}

-- `place` is the first index from `from` on that passes the test, or `count` if there is none.
pub record IsNext (test : ℕ → Bool) (count from place : ℕ) : Type 0 where
  pub ahead : from ≤ place
  pub within : place ≤ count
  pub passes : place < count → test place ≡ true
  pub between : (k : ℕ) → from ≤ k → k < place → test k ≡ false

-- for each index the first one from it on that passes
pub record AreNext (test : ℕ → Bool) (count : ℕ) (next : List ℕ) : Type 0 where
  pub len : length next ≡ count
  pub each : (k : ℕ) → k < count → IsNext test count k (slice_index_or next k 0)
