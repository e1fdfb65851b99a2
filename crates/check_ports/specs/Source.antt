-- The fields of a `Source` that a clause reads, and what it means to read a reader's bytes.
-- `old` and `new` are the reader's remaining bytes before and after, if they are known.
use Rattle.std.specs.Prelude.{◌≡◌, ◌≢◌, ◌≤◌, ◌<◌, ◌+◌, ◌⊎◌, ⊤, ℕ, List, [], ◌∷◌, Bool, Option, Ok, MatchResult, IsErrAnd, length}
use Rattle.std.specs.Io.KnownBytes.{Consumes, IsAtEnd}
use Rattle.std.specs.IoError.{error_kind}
use Rattle.std.specs.declared.io.ErrorKind.TheVariants.{Interrupted}
use Rattle.check_ports.specs.Calls.{Call, passed, Made, Each, StopsAt, PassesSome}
use Rattle.check_ports.specs.declared.source.Source.{Source}

-- the flag: a call of the reader has failed, or was interrupted
abbrev pub has_failed : {R : Type 0} → Source R → Bool
has_failed s = s.failed

-- the inner reader
abbrev pub reader_of : {R : Type 0} → Source R → R
reader_of s = s.reader

-- The reader returned these bytes in this order and no others, at most `most`. Then it was at its end, or had returned
-- `most` of them.
pub record TakesAll (old new : Option (List ℕ)) (most : ℕ) (given : List ℕ) : Type 0 where
  pub consumed : Consumes old new given
  pub within : length given ≤ most
  pub stopped : IsAtEnd new ⊎ (length given ≡ most)

-- The reader returned at least `least` bytes and at most `most`, and may have more.
pub record TakesFront (old new : Option (List ℕ)) (least most : ℕ) : Type 0 where
  pub given : List ℕ
  pub consumed : Consumes old new given
  pub enough : least ≤ length given
  pub within : length given ≤ most

-- the call returned bytes, or was interrupted
abbrev pub GoesOn : Call → Type 0
GoesOn c = MatchResult c.answer (λ n. 0 < n) (λ e. error_kind e ≡ Interrupted)

-- the call returned zero bytes, without an error
abbrev pub FoundEnd : Call → Type 0
FoundEnd c = c.answer ≡ Ok 0

-- the call failed, and was not merely interrupted
abbrev pub Fails : Call → Type 0
Fails c = IsErrAnd c.answer (λ e. error_kind e ≢ Interrupted)

-- each call had room for at least one byte, and for at most `most` bytes in total with the previous calls
abbrev pub RequiresFor : ℕ → List Call → Type 0
RequiresFor most [] = ⊤
RequiresFor most (c ∷ before) = RequiresFor most before × (0 < length c.buffer) × (length (passed before) + length c.buffer ≤ most)

-- Calls of a reader in sequence that request at most `most` bytes in total, and at most `limit` calls.
-- `reads` relates the reader before and after a call.
pub record AreReads {R : Type 0} (reads : R → R → Call → Type 0) (old new : R) (most limit : ℕ) (calls : List Call) : Type 0 where
  pub made : Made reads old new calls
  pub few : length calls ≤ limit
  pub asked : RequiresFor most calls

-- These are the bytes that the calls returned. The last call found the end, or all `most` are there. Each call before returned
-- bytes or was interrupted.
pub record ReadsAll {R : Type 0} (reads : R → R → Call → Type 0) (old new : R) (most limit : ℕ) (given : List ℕ) : Type 0 where
  pub calls : List Call
  pub reading : AreReads reads old new most limit calls
  pub given_is : given ≡ passed calls
  pub stopped : StopsAt FoundEnd GoesOn calls ⊎ (Each GoesOn calls × (length given ≡ most))

-- The last call failed and was not merely interrupted, or `limit` calls were made. Each before returned bytes or was
-- interrupted.
pub record ReadingFails {R : Type 0} (reads : R → R → Call → Type 0) (old new : R) (most limit : ℕ) : Type 0 where
  pub calls : List Call
  pub reading : AreReads reads old new most limit calls
  pub stopped : StopsAt Fails GoesOn calls ⊎ (Each GoesOn calls × (length calls ≡ limit))

-- The last call returned bytes, and each before returned bytes or was interrupted.
pub record ReadingStops {R : Type 0} (reads : R → R → Call → Type 0) (old new : R) (most limit : ℕ) : Type 0 where
  pub calls : List Call
  pub reading : AreReads reads old new most limit calls
  pub stopped : StopsAt PassesSome GoesOn calls
