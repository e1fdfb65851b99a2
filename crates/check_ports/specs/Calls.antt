-- Calls of a reader or of a writer. A list of calls has the last one first.
use Rattle.std.specs.Prelude.{◌≡◌, ◌<◌, ℕ, List, [], ◌∷◌, ◌++◌, take, ⊤, Result, Ok, Err, IsOkAnd}
use Rattle.std.specs.declared.io.Error.{Error}

-- One call: its result, and the bytes of its buffer, for a reader those after the call.
pub record Call : Type 0 where
  pub answer : Result ℕ Error
  pub buffer : List ℕ

-- the bytes that a call with this result transferred
abbrev pub passed_at : Result ℕ Error → List ℕ → List ℕ
passed_at (Ok n) buffer = take n buffer
passed_at (Err e) buffer = []

-- the bytes that these calls transferred, in the order of the calls
abbrev pub passed : List Call → List ℕ
passed [] = []
passed (c ∷ before) = passed before ++ passed_at c.answer c.buffer

-- These calls were made in sequence, and no others: the first found the port as `old`, each later one as the
-- previous call left it, and the last left it as `new`. `does` relates the port before and after a call.
abbrev pub Made : {P : Type 0} → (P → P → Call → Type 0) → P → P → List Call → Type 0
Made does old new [] = new ≡ old
Made {P = P} does old new (c ∷ before) = (middle : P) × Made does old middle before × does middle new c

-- each of these calls is of this kind
abbrev pub Each : (Call → Type 0) → List Call → Type 0
Each Kind [] = ⊤
Each Kind (c ∷ before) = Kind c × Each Kind before

-- the last of these calls is of the first kind, and each before it of the second
abbrev pub StopsAt : (Call → Type 0) → (Call → Type 0) → List Call → Type 0
StopsAt Last Other [] = ⊥
StopsAt Last Other (c ∷ before) = Last c × Each Other before

-- the call transferred bytes
abbrev pub PassesSome : Call → Type 0
PassesSome c = IsOkAnd c.answer (λ n. 0 < n)
