-- Hints at bytes that are not JSON, by their prefix.
use Rattle.std.specs.Prelude.{ℕ, List, [], ◌∷◌, codes, if◌then◌else◌, nat_eq}
use Rattle.std.specs.Char.{is_ascii_whitespace}
use Rattle.std.specs.List.{starts_with}

-- the bytes after leading whitespace
abbrev pub after_space : List ℕ → List ℕ
after_space [] = []
after_space (b ∷ bs) = if is_ascii_whitespace b then after_space bs else b ∷ bs

-- the hint of the first row that is a prefix of the bytes
abbrev pub hint_for : List ℕ → List (List ℕ × List ℕ) → List ℕ
hint_for bytes [] = []
hint_for bytes (e ∷ es) = if starts_with nat_eq bytes e.0 then e.1 else hint_for bytes es

abbrev pub hints : List (List ℕ × List ℕ)
hints =
    (239 ∷ 187 ∷ 191 ∷ [], codes "the bytes begin with a byte order mark, which JSON has not") ∷
    (255 ∷ 254 ∷ [], codes "the bytes begin with the byte order mark of UTF-16, and a document is UTF-8") ∷
    (254 ∷ 255 ∷ [], codes "the bytes begin with the byte order mark of UTF-16, and a document is UTF-8") ∷
    (3 ∷ 2 ∷ 35 ∷ 7 ∷ [], codes "this is SPIR-V, and a document is JSON") ∷
    (7 ∷ 35 ∷ 2 ∷ 3 ∷ [], codes "this is SPIR-V, and a document is JSON") ∷
    (codes "@", codes "this looks like WGSL, and a document is JSON") ∷
    (codes "fn ", codes "this looks like WGSL, and a document is JSON") ∷
    (codes "struct ", codes "this looks like WGSL, and a document is JSON") ∷
    (codes "var", codes "this looks like WGSL, and a document is JSON") ∷
    (codes "const ", codes "this looks like WGSL, and a document is JSON") ∷
    (codes "override ", codes "this looks like WGSL, and a document is JSON") ∷
    (codes "alias ", codes "this looks like WGSL, and a document is JSON") ∷
    (codes "enable ", codes "this looks like WGSL, and a document is JSON") ∷
    (codes "//", codes "this looks like WGSL, and a document is JSON") ∷
    (codes "#version", codes "this looks like GLSL, and a document is JSON") ∷
    (codes "{", codes "a document is an array of arrays, and has no object") ∷
    []

abbrev pub hint_in : List ℕ → List ℕ
hint_in [] = codes "there are no bytes but white space"
hint_in (b ∷ bs) = hint_for (b ∷ bs) hints

abbrev pub hint : List ℕ → List ℕ
hint bytes = hint_in (after_space bytes)
