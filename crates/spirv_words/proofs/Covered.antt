-- That words are cut in one way.
use Rattle.std.proofs.Common.{◌≡◌, ◌≢◌, ℕ, ◌+◌, ◌/◌, ◌%◌, ◌<◌, ◌≤◌, List, [], ◌∷◌, ◌++◌, length, slice_index_or, refl, sym, ap, arith, ◌∙◌, ◌⊎◌, inl, inr}
use Rattle.spirv_words.specs.declared.pieces.Piece.{Piece}
use Rattle.spirv_words.specs.Pieces.{IsPiece, Covers}

-- one more after
pub covers_more : (words : List ℕ) (from at : ℕ) (pieces : List Piece) (piece : Piece) → Covers words from at pieces → IsPiece words at piece → Covers words from (at + piece.len) (pieces ++ piece ∷ [])
covers_more words from at [] piece c p = rw c (p, refl)
covers_more words from at (first ∷ rest) piece c p = (c.0, covers_more words (from + first.len) at rest piece c.1 p)

-- they go on
covers_on : (words : List ℕ) (from at : ℕ) (pieces : List Piece) → Covers words from at pieces → from ≤ at
covers_on words from at [] c = omega (arith, c)
covers_on words from at (first ∷ rest) c = omega (arith, covers_on words (from + first.len) at rest c.1)

-- where one can't go on, no others can
pub covers_stop : (words : List ℕ) (from at end : ℕ) (pieces others : List Piece) → Covers words from at pieces → at < end → ((piece : Piece) → ¬ IsPiece words at piece) → ¬ Covers words from end others
covers_stop words from at end [] [] c short none d = omega (arith, c, d, short)
covers_stop words from at end [] (first ∷ rest) c short none d = none first (rw (sym c) d.0)
covers_stop words from at end (first ∷ rest) [] c short none d = omega (arith, covers_on words (from + first.len) at rest c.1, d, short)
covers_stop words from at end (first ∷ rest) (other ∷ others) c short none d =
    let same : other.len ≡ first.len = d.0.long ∙ sym c.0.long in
    covers_stop words (from + first.len) at end rest others c.1 short none (rw (sym same) d.1)

-- no instruction begins at a word that says none, or more words than are left
pub no_piece : (words : List ℕ) (at len : ℕ) → len ≡ slice_index_or words at 0 / 65536 → (len ≡ 0) ⊎ (length words < at + len) → (piece : Piece) → ¬ IsPiece words at piece
no_piece words at len is (inl none) piece p = omega (arith, p.some, p.long, is, none)
no_piece words at len is (inr more) piece p = omega (arith, p.within, p.long, is, more)
