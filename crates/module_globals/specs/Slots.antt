-- Slots of immediate data.
use Rattle.std.specs.Prelude.{◌≡◌, ◌↔◌, ◌<◌, ◌+◌, ◌*◌, ◌^◌, ◌⊎◌, ℕ}
use Rattle.std.specs.Int.{bit_at}
use Rattle.std.specs.Int.RustNames.{bit_and, bit_or}

-- a slot is in a set
abbrev pub IsIn : (set : ℕ) → (slot : ℕ) → Type 0
IsIn set slot = bit_at set slot ≡ 1

-- some byte of a range is in the slot
abbrev pub Meets : (offset size slot : ℕ) → Type 0
Meets offset size slot = (0 < size) × (4 * slot < offset + size) × (offset < 4 * slot + 4)

-- ---- laws

abbrev pub ContainsBySlots : Type 0
ContainsBySlots = (a b : ℕ) → (bit_and a b ≡ b) ↔ ((slot : ℕ) → IsIn b slot → IsIn a slot)

abbrev pub UnionBySlots : Type 0
UnionBySlots = (a b slot : ℕ) → IsIn (bit_or a b) slot ↔ (IsIn a slot ⊎ IsIn b slot)

-- Union is associative, commutative and idempotent.
pub record UnionsAgree : Type 0 where
  pub associative : (a b c : ℕ) → bit_or (bit_or a b) c ≡ bit_or a (bit_or b c)
  pub commutative : (a b : ℕ) → bit_or a b ≡ bit_or b a
  pub idempotent : (a : ℕ) → bit_or a a ≡ a

-- if a number has the slots of `b` that are not in `a`, then `a` contains `b` exactly if that number is 0
abbrev pub ContainsByDifference : Type 0
ContainsByDifference =
    (a b rest : ℕ) → b < 2 ^ 64 → rest < 2 ^ 64 → ((slot : ℕ) → slot < 64 → IsIn rest slot ↔ (IsIn b slot × ¬ IsIn a slot)) → (bit_and a b ≡ b) ↔ (rest ≡ 0)

abbrev pub SlotsAreAll : Type 0
SlotsAreAll = (a b : ℕ) → ((slot : ℕ) → IsIn a slot ↔ IsIn b slot) → a ≡ b
