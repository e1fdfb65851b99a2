-- Keyed hashers.
use Rattle.std.specs.Prelude.{ℕ, List, [], ◌∷◌, ◌++◌, fold}
use Rattle.std.specs.Hash.{u64}
use Rattle.std.specs.Hash.DefaultHasher.{initial, write, finish}
use Rattle.std.specs.declared.hash.DefaultHasher.{DefaultHasher}
use Rattle.ir_sets.specs.declared.keyed.KeyedState.{KeyedState}

-- the hasher of a state
abbrev pub initial_hasher : KeyedState → DefaultHasher
initial_hasher state = state.initial

-- the hasher with a key of two numbers
abbrev pub hasher_with : ℕ → ℕ → DefaultHasher
hasher_with key0 key1 = fold write initial (u64 key0 ++ u64 key1)

-- the hasher with a key from bytes
abbrev pub hasher_of_bytes : List ℕ → DefaultHasher
hasher_of_bytes bytes = hasher_with (finish (write initial bytes)) (finish (write (write initial bytes) (0 ∷ [])))
