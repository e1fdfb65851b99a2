-- Sets of numbers as words, with two bits for each word: whether it is valid, and whether all of its numbers are members.
use Rattle.std.specs.Prelude.{◌≡◌, ℕ, ◌*◌, ◌/◌, ◌<◌, ◌≤◌, Bool, true, ◌&&◌, ◌||◌, List, length}
use Rattle.std.specs.List.{filter, range_with_len}
use Rattle.std.specs.Ordering.{nat_cmp}
use Rattle.std.specs.FinSet as set
use Rattle.ir_sets.specs.Bits.{has_bit, IsShort}

-- whether the word of the number is valid and has its bit set
unfoldable pub counts : (words some : List ℕ) → ℕ → Bool
counts words some n = has_bit some (n / 64) && has_bit words n

-- whether the number is a member
unfoldable pub has_number : (words some full : List ℕ) → ℕ → Bool
has_number words some full n = has_bit full (n / 64) || counts words some n

-- the members
unfoldable pub numbers : (words some full : List ℕ) → set.FinSet nat_cmp
numbers words some full = set.from_list (filter (has_number words some full) (range_with_len 0 (64 * (64 * length full))))

-- each valid word is not 0
abbrev pub AreFilled : (words some : List ℕ) → Type 0
AreFilled words some = (m : ℕ) → has_bit some m ≡ true → (n : ℕ) × (n / 64 ≡ m) × (has_bit words n ≡ true)

-- each valid word except one is not 0
abbrev pub AreFilledBut : (words some : List ℕ) → ℕ → Type 0
AreFilledBut words some index = (m : ℕ) → (m ≡ index → ⊥) → has_bit some m ≡ true → (n : ℕ) × (n / 64 ≡ m) × (has_bit words n ≡ true)

-- only one word and its validity are changed
pub record ChangesAt (words some new_words new_some : List ℕ) (index : ℕ) : Type 0 where
  pub others : (n : ℕ) → (n / 64 ≡ index → ⊥) → has_bit new_words n ≡ has_bit words n
  pub others_of_some : (m : ℕ) → (m ≡ index → ⊥) → has_bit new_some m ≡ has_bit some m

-- the invariant of the words of such a set
pub record AreRanges (words some full : List ℕ) : Type 0 where
  pub short : IsShort words
  pub room_in_some : length words ≤ 64 * length some
  pub room_in_full : length words ≤ 64 * length full
  pub filled : AreFilled words some
  pub whole : (m : ℕ) → has_bit full m ≡ true → m < length words
