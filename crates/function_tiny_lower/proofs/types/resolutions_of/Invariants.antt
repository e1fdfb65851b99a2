-- What was reported of the types that were passed, with what is reported of the rest, is that of all.
use Rattle.std.proofs.Common.{◌≡◌, ◌++◌, drop, map}
use Rattle.function_tiny_lower.specs.Values.{resolution_of}
use Rattle.function_tiny_lower.proofs.types.resolutions_of.Given as goal

abbrev pub invariant-loop-ty : goal.invariant-loop-ty
invariant-loop-ty l = (l.told.items ++ map resolution_of (drop l.ty-index l.types)) ≡ map resolution_of l.types
