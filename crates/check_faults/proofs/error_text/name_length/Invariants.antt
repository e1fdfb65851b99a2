use Rattle.std.proofs.Common.{◌≡◌, ◌+◌, drop}
use Rattle.check_faults.specs.Names.{name_length}
use Rattle.check_faults.proofs.error_text.name_length.Given as goal

-- all bytes before are part of the name, and the rest determines how many follow
abbrev pub invariant-loop-index : goal.invariant-loop-index
invariant-loop-index l = l.index + name_length (drop l.index l.text) ≡ name_length l.text
