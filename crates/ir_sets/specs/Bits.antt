-- Bit sets in words of 64 bits: the bit of a number n is bit n % 64 of word n / 64.
use Rattle.std.specs.Prelude.{◌≡◌, ℕ, ◌+◌, ◌*◌, ◌/◌, ◌%◌, ◌<◌, ◌≤◌, Bool, true, false, List, length, nat_eq, slice_index}
use Rattle.std.specs.Int.{bit_at}
use Rattle.std.specs.List.{filter, range_with_len}
use Rattle.std.specs.Ordering.{nat_cmp}
use Rattle.std.specs.FinSet as set

-- whether the bit of a number is set in the words
unfoldable pub has_bit : List ℕ → ℕ → Bool
has_bit words n = nat_eq (bit_at (slice_index words (n / 64)) (n % 64)) 1

-- the numbers among `count` from n on whose bits are set, in ascending order
abbrev pub bits_from : List ℕ → ℕ → ℕ → List ℕ
bits_from words n count = filter (has_bit words) (range_with_len n count)

-- all numbers whose bits are set, in ascending order
abbrev pub bits_of : List ℕ → List ℕ
bits_of words = bits_from words 0 (64 * length words)

-- the set of all numbers whose bits are set
unfoldable pub members : List ℕ → set.FinSet nat_cmp
members words = set.from_list (bits_of words)

-- the new test is `value` for the numbers in from..end, and equals the old one for all others
pub record Becomes (value : Bool) (old new : ℕ → Bool) (from end : ℕ) : Type 0 where
  pub within : (n : ℕ) → from ≤ n → n < end → new n ≡ value
  pub others : (n : ℕ) → (from ≤ n → n < end → ⊥) → new n ≡ old n

-- no number in from..end passes
abbrev pub NoneBetween : (ℕ → Bool) → ℕ → ℕ → Type 0
NoneBetween test from end = (n : ℕ) → from ≤ n → n < end → test n ≡ false

-- some number in from..end passes
abbrev pub SomeBetween : (ℕ → Bool) → ℕ → ℕ → Type 0
SomeBetween test from end = (n : ℕ) × (from ≤ n) × (n < end) × (test n ≡ true)

-- n is the first number in from..end that passes
pub record IsFirst (test : ℕ → Bool) (from end n : ℕ) : Type 0 where
  pub reached : from ≤ n
  pub within : n < end
  pub passes : test n ≡ true
  pub before : NoneBetween test from n

-- n is the greatest number whose bit is set
pub record IsGreatest (words : List ℕ) (n : ℕ) : Type 0 where
  pub set : has_bit words n ≡ true
  pub last : (q : ℕ) → has_bit words q ≡ true → q ≤ n

-- the last word is not 0: a bit of it is set
abbrev pub IsTrimmed : List ℕ → Type 0
IsTrimmed words = 0 < length words → (n : ℕ) × (n / 64 + 1 ≡ length words) × (has_bit words n ≡ true)

-- no more words than for the indices of handles
abbrev pub IsShort : List ℕ → Type 0
IsShort words = length words ≤ 67108864

-- each number whose bit is set can be the index of a handle
pub record AreShown (words : List ℕ) : Type 0 where
  pub short : IsShort words
  pub indexes : (n : ℕ) → has_bit words n ≡ true → n < 4294967295

-- the invariant of the words of a set of handles
pub record AreWords (words : List ℕ) : Type 0 where
  pub trimmed : IsTrimmed words
  pub shown : AreShown words
