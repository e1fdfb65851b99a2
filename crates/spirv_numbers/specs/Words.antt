-- How bytes spell words (section 2.3 of the standard).
use Rattle.std.specs.Prelude.{◌≡◌, ℕ, List, [], ◌∷◌, ◌+◌, ◌*◌, ◌≤◌, ◌⊎◌, length, map, get_or}
use Rattle.std.specs.List.{range_with_len}
use Rattle.std.specs.Int.{w32, from_le_bytes, from_be_bytes}
use Rattle.spirv_numbers.specs.declared.words.ByteOrder.{ByteOrder}
use Rattle.spirv_numbers.specs.declared.words.ByteOrder.TheVariants.{Little, Big}

-- four bytes from a place on
abbrev pub four : List ℕ → ℕ → List ℕ
four bytes at = get_or bytes at 0 ∷ get_or bytes (at + 1) 0 ∷ get_or bytes (at + 2) 0 ∷ get_or bytes (at + 3) 0 ∷ []

-- the word at a place, counted in words
unfoldable pub word_at : ByteOrder → List ℕ → ℕ → ℕ
word_at Little bytes place = from_le_bytes w32 (four bytes (4 * place))
word_at Big bytes place = from_be_bytes w32 (four bytes (4 * place))

-- the first words
unfoldable pub words_in : ByteOrder → List ℕ → ℕ → List ℕ
words_in order bytes count = map (word_at order bytes) (range_with_len 0 count)

-- 0x07230203
abbrev pub magic : ℕ
magic = 119734787

-- bytes spell words in an order in which the first is that of SPIR-V
pub record IsSpelled (order : ByteOrder) (bytes : List ℕ) (words : List ℕ) : Type 0 where
  pub few : length bytes ≤ 16777216
  pub whole : length bytes ≡ 4 * length words
  pub header : 5 ≤ length words
  pub first : word_at order bytes 0 ≡ magic
  pub each : words ≡ words_in order bytes (length words)

abbrev pub Reads : List ℕ → List ℕ → Type 0
Reads bytes words = IsSpelled Little bytes words ⊎ IsSpelled Big bytes words
