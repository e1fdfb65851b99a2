-- Arguments that a caller passes on unchanged.
use Rattle.std.specs.Prelude.{◌≡◌, ℕ, List, Option, Some, slice_get}
use Rattle.typing_rules.specs.judged.Laws.{IsAmong}
use Rattle.spec_expressions.specs.declared.sampling.GlobalOrArgument.{GlobalOrArgument}
use Rattle.spec_expressions.specs.declared.sampling.GlobalOrArgument.TheVariants.{Argument}
use Rattle.spec_expressions.specs.judged.Pairs.{SamplingPair}
use Rattle.spec_expressions.specs.judged.CallChains.{seen_through}
use Rattle.spec_expressions.specs.found.Arguments.{argument_means}

-- the argument passed is the caller's own argument of the same index
abbrev pub PassesOn : (meaning : ℕ → Option GlobalOrArgument) → (arguments : List ℕ) → ℕ → Type 0
PassesOn meaning arguments number = argument_means meaning (slice_get arguments number) ≡ Some (Argument number)

-- each of these pairs is the same pair in the caller
abbrev pub PassesAllOn : (meaning : ℕ → Option GlobalOrArgument) → (arguments : List ℕ) → List SamplingPair → Type 0
PassesAllOn meaning arguments pairs =
    (p : SamplingPair) → IsAmong p pairs → (seen_through meaning arguments (Some p.0) ≡ Some p.0) × (seen_through meaning arguments (Some p.1) ≡ Some p.1)
