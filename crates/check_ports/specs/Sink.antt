-- The fields of a `Sink` that a clause reads, and what it means to write a part of some bytes.
-- `old` and `new` are the writer's contents before and after, if they are known.
use Rattle.std.specs.Prelude.{◌≡◌, ◌<◌, ⊤, ℕ, List, [], ◌∷◌, Bool, Option, MatchResult, ◌++◌, length}
use Rattle.std.specs.Io.KnownBytes.{Appends}
use Rattle.check_ports.specs.Calls.{Call, passed, Made, Each, StopsAt, PassesSome}
use Rattle.check_ports.specs.declared.sink.Sink.{Sink}

-- the flag: a call of the writer has failed, was interrupted, or accepted zero bytes
abbrev pub has_failed : {W : Type 0} → Sink W → Bool
has_failed s = s.failed

-- the inner writer
abbrev pub writer_of : {W : Type 0} → Sink W → W
writer_of s = s.writer

-- The writer accepted a proper prefix of these bytes and nothing else.
pub record AppendsFront (old new : Option (List ℕ)) (bytes : List ℕ) : Type 0 where
  pub prefix : List ℕ
  pub rest : List ℕ
  pub whole : bytes ≡ prefix ++ rest
  pub received : Appends old new prefix
  pub unfinished : 0 < length rest

-- the call accepted zero bytes, was interrupted or failed
abbrev pub TakesNothing : Call → Type 0
TakesNothing c = MatchResult c.answer (λ n. n ≡ 0) (λ _. ⊤)

-- each call was offered what the previous calls left of the bytes
abbrev pub Offers : List ℕ → List Call → Type 0
Offers bytes [] = ⊤
Offers bytes (c ∷ before) = Offers bytes before × (bytes ≡ passed before ++ c.buffer)

-- Calls of a writer in sequence, each of which accepted some of the bytes, and together all of them.
-- `writes` relates the writer before and after a call.
pub record WritesAll {W : Type 0} (writes : W → W → Call → Type 0) (old new : W) (bytes : List ℕ) : Type 0 where
  pub calls : List Call
  pub made : Made writes old new calls
  pub offered : Offers bytes calls
  pub took : Each PassesSome calls
  pub whole : passed calls ≡ bytes

-- The last call accepted zero bytes, was interrupted or failed, and each before it accepted some of the bytes.
pub record WritingFails {W : Type 0} (writes : W → W → Call → Type 0) (old new : W) (bytes : List ℕ) : Type 0 where
  pub calls : List Call
  pub made : Made writes old new calls
  pub offered : Offers bytes calls
  pub stopped : StopsAt TakesNothing PassesSome calls
