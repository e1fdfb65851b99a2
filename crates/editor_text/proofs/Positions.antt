-- The position after one more byte.
use Rattle.std.proofs.Common.{◌≡◌, ℕ, ◌+◌, ◌*◌, ◌<◌, ◌≤◌, ◌==◌, ◌||◌, List, [], ◌∷◌, ◌++◌, Bool, true, false, nat_lt, if◌then◌else◌, sum_by, take, length, get_or, refl, ap, sym, ◌∙◌, arith, add-one, add-zero}
use Rattle.std.proofs.Math.Seq.{take-suc}
use Rattle.std.proofs.lemmas.List.Sums.{sum_by_push}
use Rattle.editor_text.specs.Positions.{units, feeds, has_feed, last_line, position_after, position_at, after_byte}
use Rattle.editor_text.specs.declared.position.Encoding.{Encoding}
use Rattle.editor_text.specs.declared.position.Encoding.TheVariants.{Utf8, Utf16}
use Rattle.editor_text.specs.declared.position.Position.{Position}

or_false : (b : Bool) → (b || false) ≡ b
or_false true = refl
or_false false = refl

or_more : (a b c : Bool) → (a || (b || c)) ≡ ((a || b) || c)
or_more true b c = refl
or_more false b c = refl

-- a text with one more byte
has_feed-more : (xs : List ℕ) (b : ℕ) → has_feed (xs ++ (b ∷ [])) ≡ (has_feed xs || (b == 10))
has_feed-more [] b = or_false (b == 10)
has_feed-more (x ∷ xs) b = ap (λ t. (x == 10) || t) (has_feed-more xs b) ∙ or_more (x == 10) (has_feed xs) (b == 10)

line_step : (here later last : Bool) (line whole more : List ℕ) → (if here || (later || last) then (if last then [] else line ++ more) else whole ++ more) ≡ (if last then [] else (if here || later then line else whole) ++ more)
line_step true true true line whole more = refl
line_step true true false line whole more = refl
line_step true false true line whole more = refl
line_step true false false line whole more = refl
line_step false true true line whole more = refl
line_step false true false line whole more = refl
line_step false false true line whole more = refl
line_step false false false line whole more = refl

line_alone : (last : Bool) (b : ℕ) → (if last || false then [] else (b ∷ [])) ≡ (if last then [] else [] ++ (b ∷ []))
line_alone true b = refl
line_alone false b = refl

last_line-more : (xs : List ℕ) (b : ℕ) → last_line (xs ++ (b ∷ [])) ≡ (if b == 10 then [] else last_line xs ++ (b ∷ []))
last_line-more [] b = line_alone (b == 10) b
last_line-more (x ∷ xs) b =
    ap (λ t. if (x == 10) || t then last_line (xs ++ (b ∷ [])) else x ∷ xs ++ (b ∷ [])) (has_feed-more xs b)
    ∙ ap (λ t. if (x == 10) || (has_feed xs || (b == 10)) then t else x ∷ xs ++ (b ∷ [])) (last_line-more xs b)
    ∙ line_step (x == 10) (has_feed xs) (b == 10) (last_line xs) (x ∷ xs) (b ∷ [])

count_more : (last : Bool) (n : ℕ) → n + (if last then 1 else 0) ≡ (if last then n + 1 else n)
count_more true n = refl
count_more false n = omega arith

abbrev place : ℕ → ℕ → Position
place line column = record { line = line; column = column }

-- its position, whether the byte is a line feed or not
after_step : (last : Bool) (encoding : Encoding) (line b : ℕ) (before : List ℕ) → (if last then place (line + 1) 0 else place line (sum_by (units encoding) before + units encoding b)) ≡ place (line + (if last then 1 else 0)) (sum_by (units encoding) (if last then [] else before ++ (b ∷ [])))
after_step true encoding line b before = refl
after_step false encoding line b before = rw add-zero (ap (place line) (sym (sum_by_push (units encoding) before b)))

feeds-more : (text : List ℕ) (b : ℕ) → feeds (text ++ (b ∷ [])) ≡ feeds text + (if b == 10 then 1 else 0)
feeds-more text b = sum_by_push (λ x. if x == 10 then 1 else 0) text b

after_more : (encoding : Encoding) (text : List ℕ) (b : ℕ) → after_byte encoding (position_after encoding text) b ≡ position_after encoding (text ++ (b ∷ []))
after_more encoding text b =
    after_step (b == 10) encoding (feeds text) b (last_line text)
    ∙ ap (λ n. place n (sum_by (units encoding) (if b == 10 then [] else last_line text ++ (b ∷ [])))) (sym (feeds-more text b))
    ∙ ap (λ t. place (feeds (text ++ (b ∷ []))) (sum_by (units encoding) t)) (sym (last_line-more text b))

more_is_after : (encoding : Encoding) (text : List ℕ) (i b : ℕ) → i < length text → b ≡ get_or text i 0 → after_byte encoding (position_at encoding text i) b ≡ position_at encoding text (i + 1)
more_is_after encoding text i b h e = after_more encoding (take i text) b ∙ ap (position_after encoding) (ap (λ x. take i text ++ (x ∷ [])) e ∙ sym (take-suc text i 0 h) ∙ ap (λ n. take n text) (sym (add-one i)))

-- the position of the next byte
pub next_position : (encoding : Encoding) (text : List ℕ) (i b : ℕ) (p q : Position) → i < length text → p ≡ position_at encoding text i → b ≡ get_or text i 0 → q ≡ after_byte encoding p b → q ≡ position_at encoding text (i + 1)
next_position encoding text i b p q h is e made = made ∙ ap (λ x. after_byte encoding x b) is ∙ more_is_after encoding text i b h e

units_few : (encoding : Encoding) (b : ℕ) → units encoding b ≤ 2
units_few Utf8 b = omega arith
units_few Utf16 b = few (nat_lt b 128) (nat_lt b 192) (nat_lt b 240)
  where
    few : (x y z : Bool) → (if x then 1 else (if y then 0 else (if z then 1 else 2))) ≤ 2
    few true y z = omega arith
    few false true z = omega arith
    few false false true = omega arith
    few false false false = omega arith

lines_step : (last : Bool) (line column : ℕ) (n : ℕ) → (if last then place (line + 1) 0 else place line (column + n)).line ≤ line + 1
lines_step true line column n = omega arith
lines_step false line column n = omega arith

columns_step : (last : Bool) (line column : ℕ) (n : ℕ) → n ≤ 2 → (if last then place (line + 1) 0 else place line (column + n)).column ≤ column + 2
columns_step true line column n h = omega arith
columns_step false line column n h = omega arith

-- each byte is at most one line feed
pub more_lines : (encoding : Encoding) (p q : Position) (b i : ℕ) → q ≡ after_byte encoding p b → p.line ≤ i → q.line ≤ i + 1
more_lines encoding p q b i made h =
    let step = lines_step (b == 10) p.line p.column (units encoding b) in
    let is = ap (λ (x : Position). x.line) made in
    omega (arith, step, is)

-- and at most two units
pub more_columns : (encoding : Encoding) (p q : Position) (b i : ℕ) → q ≡ after_byte encoding p b → p.column ≤ 2 * i → q.column ≤ 2 * (i + 1)
more_columns encoding p q b i made h =
    let step = columns_step (b == 10) p.line p.column (units encoding b) (units_few encoding b) in
    let is = ap (λ (x : Position). x.column) made in
    omega (arith, step, is)
