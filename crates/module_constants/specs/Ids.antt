-- The ids of the overrides before an index.
use Rattle.std.specs.Prelude.{◌≡◌, ◌↔◌, ◌⊎◌, ◌+◌, ◌/◌, ◌%◌, ℕ, List, Option, Some, None, Bool, false, true, slice_index_or}
use Rattle.std.specs.Int.{bit_at}
use Rattle.ir_items.specs.judged.GlobalPlain.{PlainOverride}
use Rattle.module_constants.specs.declared.ids.OverrideIds.{OverrideIds}
use Rattle.spec_expressions.specs.judged.Overrides.{IsTaken}

-- the set contains an id: its bit is set
abbrev pub IsSeen : OverrideIds → (id : ℕ) → Type 0
IsSeen ids id = bit_at (slice_index_or ids.words.items (id / 64) 0) (id % 64) ≡ 1

-- the set is exactly the ids of the overrides before an index
pub record AreIds (overrides : List PlainOverride) (place : ℕ) (ids : OverrideIds) : Type 0 where
  pub each : (id : ℕ) → IsSeen ids id ↔ IsTaken overrides place id

-- an id is inserted; `own` is whether it was new
pub record IsNoted (before after : OverrideIds) (id : ℕ) (own : Bool) : Type 0 where
  pub fresh : own ≡ true → ¬ IsSeen before id
  pub repeated : own ≡ false → IsSeen before id
  pub all : (q : ℕ) → IsSeen after q ↔ (IsSeen before q ⊎ (q ≡ id))

-- likewise for the optional id of an override
abbrev pub IsNotedIf : (before after : OverrideIds) → Option ℕ → (own : Bool) → Type 0
IsNotedIf before after None own = (own ≡ true) × ((q : ℕ) → IsSeen after q ↔ IsSeen before q)
IsNotedIf before after (Some id) own = IsNoted before after id own

-- If an override is rejected, the ids are those of the overrides before it, possibly with its own.
pub record AreIdsOrMore (overrides : List PlainOverride) (place : ℕ) (ids : OverrideIds) : Type 0 where
  pub earlier : (id : ℕ) → IsTaken overrides place id → IsSeen ids id
  pub only : (id : ℕ) → IsSeen ids id → IsTaken overrides (place + 1) id
