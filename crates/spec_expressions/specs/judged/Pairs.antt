-- Sampled pairs of an image and a sampler.
use Rattle.std.specs.Prelude.{Bool, ◌&&◌}
use Rattle.spec_expressions.specs.declared.sampling.GlobalOrArgument.{GlobalOrArgument}
use Rattle.spec_expressions.specs.contracts.sampling.GlobalOrArgumentPartialEq as each

-- the image and the sampler
abbrev pub SamplingPair : Type 0
SamplingPair = GlobalOrArgument × GlobalOrArgument

-- both are equal
abbrev pub pair_eq : SamplingPair → SamplingPair → Bool
pair_eq p q = each.TheImpl.ghosts.eq p.0 q.0 && each.TheImpl.ghosts.eq p.1 q.1
