-- Which words an instruction has (section 2.3 of the standard).
use Rattle.std.specs.Prelude.{◌≡◌, ℕ, List, [], ◌∷◌, ◌+◌, ◌*◌, ◌/◌, ◌%◌, ◌≤◌, ◌<◌, length, slice_index_or}
use Rattle.spirv_words.specs.declared.pieces.Piece.{Piece}

-- an instruction begins at a word: that one says how long it is, and it ends within the words
pub record IsPiece (words : List ℕ) (at : ℕ) (piece : Piece) : Type 0 where
  pub start : piece.start ≡ at
  pub opcode : piece.opcode ≡ slice_index_or words at 0 % 65536
  pub long : piece.len ≡ slice_index_or words at 0 / 65536
  pub some : 0 < piece.len
  pub within : at + piece.len ≤ length words

-- instructions stand one after the other, from a word up to another
abbrev pub Covers : List ℕ → ℕ → ℕ → List Piece → Type 0
Covers words from end [] = from ≡ end
Covers words from end (piece ∷ pieces) = IsPiece words from piece × Covers words (from + piece.len) end pieces

-- the instructions of the words after a header
abbrev pub AreCut : List ℕ → List Piece → Type 0
AreCut words pieces = Covers words 5 (length words) pieces
