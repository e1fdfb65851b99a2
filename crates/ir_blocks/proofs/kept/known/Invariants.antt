-- The spans after the first `count` are undefined.
use Rattle.std.proofs.Common.{◌≡◌, ◌≤◌, length, take}
use Rattle.ir_blocks.specs.found.Padded.{up_to_defined}
use Rattle.ir_blocks.proofs.kept.known.Given as goal

abbrev pub invariant-loop-count : goal.invariant-loop-count
invariant-loop-count l = (l.count ≤ length l.spans) × (up_to_defined (take l.count l.spans) ≡ up_to_defined l.spans)

abbrev pub decreases-loop-count : goal.decreases-loop-count
decreases-loop-count l = l.count
