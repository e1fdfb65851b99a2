-- The first match of a search.
use Rattle.std.specs.Prelude.{ℕ, nat_lt, if◌then◌else◌, List, ◌∷◌, Option, Some, None, []}
use Rattle.std.specs.Option.{option_or}
use Rattle.ir_blocks.specs.judged.Plain.{PlainStatement, emit, block, if_, switch, loop, break, continue, return, kill, operation, call, PlainBlock, stop, next, PlainCases, no_case, case}
use Rattle.spec_expressions.specs.judged.Kinds.{Emitted}

-- the first of these handles that doesn't come before the bound
abbrev pub first_past : (end : ℕ) → List ℕ → Option ℕ
first_past end [] = None
first_past end (h ∷ hs) = if nat_lt h end then first_past end hs else Some h

-- the first match in one of these
abbrev pub first_of : {A F : Type 0} → (A → Option F) → List A → Option F
first_of look [] = None
first_of look (x ∷ xs) = option_or (look x) (first_of look xs)

-- the first match in a body, at any depth
abbrev mutual
  pub first_in : {F : Type 0} → (PlainStatement → Option F) → PlainBlock → Option F
  first_in look stop = None
  first_in look (next s rest) = option_or (first_at look s) (first_in look rest)

  -- in the statement and its nested statements
  pub first_at : {F : Type 0} → (PlainStatement → Option F) → PlainStatement → Option F
  first_at look (emit first end) = look (emit first end)
  first_at look (block b) = option_or (look (block b)) (first_in look b)
  first_at look (if_ condition accept reject) = option_or (look (if_ condition accept reject)) (option_or (first_in look accept) (first_in look reject))
  first_at look (switch selector cases) = option_or (look (switch selector cases)) (first_in_cases look cases)
  first_at look (loop body continuing break_if) = option_or (look (loop body continuing break_if)) (option_or (first_in look body) (first_in look continuing))
  first_at look break = look break
  first_at look continue = look continue
  first_at look (return value) = look (return value)
  first_at look kill = look kill
  first_at look (operation a) = look (operation a)
  first_at look (call function arguments result) = look (call function arguments result)

  pub first_in_cases : {F : Type 0} → (PlainStatement → Option F) → PlainCases → Option F
  first_in_cases look no_case = None
  first_in_cases look (case value body falls rest) = option_or (first_in look body) (first_in_cases look rest)

-- a range by its bounds
abbrev pub emitted_view : ℕ × ℕ → Emitted
emitted_view r = record { first = r.0; end = r.1 }
