-- Checks of items in order.
use Rattle.std.specs.Prelude.{◌<◌, ℕ}

-- the first `n` items are accepted
pub record AreAccepted (OK : ℕ → Type 0) (count : ℕ) : Type 0 where
  pub each : (handle : ℕ) → handle < count → OK handle

-- it is the first rejected item, and has this error
pub record IsFirstRefused (OK : ℕ → Type 0) (Fault : ℕ → Type 0) (count handle : ℕ) : Type 0 where
  pub within : handle < count
  pub fault : Fault handle
  pub not : ¬ OK handle
  pub before : (earlier : ℕ) → earlier < handle → OK earlier
