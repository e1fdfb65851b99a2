-- The line and column of a byte in a text.
use Rattle.std.specs.Prelude.{◌≡◌, ℕ, ◌+◌, ◌<◌, ◌≤◌, ◌⊎◌, ◌==◌, ◌||◌, List, [], ◌∷◌, Bool, false, nat_lt, if◌then◌else◌, sum_by, count_by, take}
use Rattle.editor_text.specs.declared.position.Encoding.{Encoding}
use Rattle.editor_text.specs.declared.position.Encoding.TheVariants.{Utf8, Utf16}
use Rattle.editor_text.specs.declared.position.Position.{Position}

-- The number of units that a byte begins: in UTF-16 a character of four bytes is two units, and continuation bytes begin none.
abbrev pub units : Encoding → ℕ → ℕ
units Utf8 byte = 1
units Utf16 byte = if nat_lt byte 128 then 1 else (if nat_lt byte 192 then 0 else (if nat_lt byte 240 then 1 else 2))

-- the number of line feeds of a text
abbrev pub feeds : List ℕ → ℕ
feeds text = count_by (λ byte. byte == 10) text

abbrev pub has_feed : List ℕ → Bool
has_feed [] = false
has_feed (byte ∷ rest) = (byte == 10) || has_feed rest

-- the text after the last line feed
abbrev pub last_line : List ℕ → List ℕ
last_line [] = []
last_line (byte ∷ rest) = if has_feed (byte ∷ rest) then last_line rest else byte ∷ rest

-- The position at the end of a text: its line is the number of line feeds, and its column the number of units after the last.
abbrev pub position_after : Encoding → List ℕ → Position
position_after encoding text = record { line = feeds text; column = sum_by (units encoding) (last_line text) }

-- the position of a byte in a text, or of its end
abbrev pub position_at : Encoding → (text : List ℕ) → (byte : ℕ) → Position
position_at encoding text byte = position_after encoding (take byte text)

-- the position after a byte at a position
abbrev pub after_byte : Encoding → Position → ℕ → Position
after_byte encoding p byte = if byte == 10 then record { line = p.line + 1; column = 0 } else record { line = p.line; column = p.column + units encoding byte }

-- it is at or before the other
abbrev pub IsUpTo : Position → Position → Type 0
IsUpTo p q = (p.line < q.line) ⊎ ((p.line ≡ q.line) × (p.column ≤ q.column))
