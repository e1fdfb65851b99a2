-- Tokens and the gaps between them give the text.
use Rattle.std.proofs.Common.{◌≡◌, ℕ, ◌+◌, ◌-◌, ◌<◌, ◌≤◌, List, [], ◌∷◌, ◌++◌, length, take, drop, refl, sym, ap, arith, ◌∙◌}
use Rattle.std.proofs.lemmas.List.{take-append-drop, drop-drop}
use Rattle.wgsl_tokens.specs.declared.token.Token.{Token}
use Rattle.wgsl_tokens.specs.Cut.{Covers, AreTokens, part, joined}

-- one more token
pub covers_more : (from at end : ℕ) (tokens : List Token) (token : Token) → Covers from at tokens → at ≤ token.start → token.start < token.end → token.end ≤ end → Covers from token.end (tokens ++ token ∷ [])
covers_more from at end [] token c after some within = (omega (arith, c, after), some, omega arith)
covers_more from at end (first ∷ rest) token c after some within = (c.0, c.1, covers_more first.end at end rest token c.2 after some within)

-- up to a later end
pub covers_all : (from at end : ℕ) (tokens : List Token) → Covers from at tokens → at ≤ end → Covers from end tokens
covers_all from at end [] c later = omega (arith, c, later)
covers_all from at end (first ∷ rest) c later = (c.0, c.1, covers_all first.end at end rest c.2 later)

-- a part and the rest
part_rest : (text : List ℕ) (from at : ℕ) → from ≤ at → part text from at ++ drop at text ≡ drop from text
part_rest text from at later =
    let rest : drop (at - from) (drop from text) ≡ drop at text = drop-drop (at - from) from text ∙ ap (λ n. drop n text) (omega (arith, later)) in
    rw (sym rest) (take-append-drop (at - from) (drop from text))

-- all parts in order
pub joined_is : (text : List ℕ) (from end : ℕ) (tokens : List Token) → Covers from end tokens → joined text from tokens ≡ drop from text
joined_is text from end [] c = refl
joined_is text from end (token ∷ tokens) c =
    rw (joined_is text token.end end tokens c.2)
    (rw (part_rest text token.start token.end (omega (arith, c.1)))
    (part_rest text from token.start c.0))
