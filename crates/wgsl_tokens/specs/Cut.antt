-- The tokens of a text.
use Rattle.std.specs.Prelude.{◌≡◌, ℕ, List, [], ◌∷◌, ◌++◌, ◌+◌, ◌-◌, ◌≤◌, ◌<◌, length, take, drop}
use Rattle.wgsl_tokens.specs.declared.token.Token.{Token}

-- Tokens in order between two bytes: none is empty, none overlaps the one before.
abbrev pub Covers : ℕ → ℕ → List Token → Type 0
Covers from end [] = from ≤ end
Covers from end (token ∷ tokens) = (from ≤ token.start) × (token.start < token.end) × Covers token.end end tokens

-- the tokens are in order within the text
abbrev pub AreTokens : List ℕ → List Token → Type 0
AreTokens text tokens = Covers 0 (length text) tokens

-- the bytes from one index to before another
abbrev pub part : List ℕ → ℕ → ℕ → List ℕ
part text from end = take (end - from) (drop from text)

-- tokens, with the gap before each and after the last
abbrev pub joined : List ℕ → ℕ → List Token → List ℕ
joined text from [] = drop from text
joined text from (token ∷ tokens) = part text from token.start ++ (part text token.start token.end ++ joined text token.end tokens)
