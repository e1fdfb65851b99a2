use Rattle.std.proofs.Common.{◌≡◌, drop}
use Rattle.check_reasons.specs.Hints.{after_space}
use Rattle.check_reasons.proofs.hints.after_space.Given as goal

-- the bytes before are whitespace
abbrev pub invariant-loop-index : goal.invariant-loop-index
invariant-loop-index l = after_space (drop l.index l.bytes) ≡ after_space l.bytes
