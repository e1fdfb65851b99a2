-- The identifier extends to here.
use Rattle.std.proofs.Common.{◌-◌, ◌≤◌, length}
use Rattle.wgsl_tokens.proofs.characters.name_end.Given as goal

abbrev pub invariant-loop-at : goal.invariant-loop-at
invariant-loop-at l = record {
  more : l.start ≤ l.at;
  within : l.at ≤ length l.text;
}

abbrev pub decreases-loop-at : goal.decreases-loop-at
decreases-loop-at l = length l.text - l.at
