-- Bit flag sets as numbers.
use Rattle.std.specs.Prelude.{◌≡◌, ℕ}
use Rattle.std.specs.Int.RustNames.{bit_and}

-- the set contains all of these bits
abbrev pub Has : ℕ → ℕ → Type 0
Has set flags = bit_and set flags ≡ flags

-- inclusion: each bit of the first is one of the second
abbrev pub IsWithin : ℕ → ℕ → Type 0
IsWithin inner outer = Has outer inner
