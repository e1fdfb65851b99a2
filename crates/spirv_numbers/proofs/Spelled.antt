-- Which words bytes spell, by the steps in which they are read.
use Rattle.std.proofs.Common.{◌≡◌, ◌≢◌, ℕ, ◌+◌, ◌/◌, ◌%◌, ◌<◌, ◌≤◌, inl, inr, List, [], ◌∷◌, ◌++◌, length, refl, arith}
use Rattle.std.proofs.lemmas.List.FromFn.{map-range_with_len_more, length-map-range_with_len}
use Rattle.spirv_numbers.specs.declared.words.ByteOrder.{ByteOrder}
use Rattle.spirv_numbers.specs.declared.words.ByteOrder.TheVariants.{Little, Big}
use Rattle.spirv_numbers.specs.Words.{IsSpelled, Reads, magic, word_at, words_in}

-- none
pub words_none : (order : ByteOrder) (bytes : List ℕ) → words_in order bytes 0 ≡ []
unfolding words_in
words_none order bytes = refl

-- one word more
pub words_more : (order : ByteOrder) (bytes : List ℕ) (n : ℕ) → words_in order bytes (n + 1) ≡ words_in order bytes n ++ word_at order bytes n ∷ []
unfolding words_in
words_more order bytes n = map-range_with_len_more (word_at order bytes) 0 n n (omega arith)

-- how many there are
pub words_length : (order : ByteOrder) (bytes : List ℕ) (n : ℕ) → length (words_in order bytes n) ≡ n
unfolding words_in
words_length order bytes n = length-map-range_with_len (word_at order bytes) 0 n

either : (order : ByteOrder) (bytes words : List ℕ) → IsSpelled order bytes words → Reads bytes words
either Little bytes words s = inl s
either Big bytes words s = inr s

-- all words were read
pub reads : (order : ByteOrder) (bytes words : List ℕ) (count : ℕ) → length bytes ≤ 16777216 → count ≡ length bytes / 4 → length bytes % 4 ≡ 0 → 5 ≤ count → word_at order bytes 0 ≡ magic → words ≡ words_in order bytes count → Reads bytes words
reads order bytes words count few quarter whole header first each =
    let long : length words ≡ count = rw each (words_length order bytes count) in
    either order bytes words record {
      few = few;
      whole = omega (arith, long, quarter, whole);
      header = omega (arith, long, header);
      first = first;
      each = rw long each;
    }

-- too many bytes spell none
pub reads_long : (bytes words : List ℕ) → 16777216 < length bytes → ¬ Reads bytes words
reads_long bytes words long (inl s) = omega (arith, s.few, long)
reads_long bytes words long (inr s) = omega (arith, s.few, long)

-- nor do those that are no whole words
pub reads_part : (bytes words : List ℕ) → length bytes % 4 ≢ 0 → ¬ Reads bytes words
reads_part bytes words part (inl s) = part (omega (arith, s.whole))
reads_part bytes words part (inr s) = part (omega (arith, s.whole))

-- nor those that are no header
pub reads_short : (bytes words : List ℕ) → length bytes / 4 < 5 → ¬ Reads bytes words
reads_short bytes words short (inl s) = omega (arith, s.whole, s.header, short)
reads_short bytes words short (inr s) = omega (arith, s.whole, s.header, short)

-- nor those that begin with another word in both orders
pub reads_other : (bytes words : List ℕ) → word_at Little bytes 0 ≢ magic → word_at Big bytes 0 ≢ magic → ¬ Reads bytes words
reads_other bytes words little big (inl s) = little s.first
reads_other bytes words little big (inr s) = big s.first
