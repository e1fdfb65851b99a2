-- No two entry points of one stage have the same name.
use Rattle.std.specs.Prelude.{◌≡◌, ◌<◌, ℕ, Some, slice_get}
use Rattle.ir_items.specs.judged.Plain.{PlainEntry, PlainModule}

-- An earlier entry point of the same stage has the same name.
pub record IsConflict (m : PlainModule) (index : ℕ) (e : PlainEntry) : Type 0 where
  pub earlier : ℕ
  pub other : PlainEntry
  pub before : earlier < index
  pub at : slice_get m.entries earlier ≡ Some other
  pub stage : other.stage ≡ e.stage
  pub name : other.name ≡ e.name
