-- Only blankspace and comments precede this byte.
use Rattle.std.proofs.Common.{◌-◌, ◌≤◌, length}
use Rattle.wgsl_tokens.proofs.blank.after_blank.Given as goal

abbrev pub invariant-loop-at : goal.invariant-loop-at
invariant-loop-at l = record {
  more : l.start ≤ l.at;
  within : l.at ≤ length l.text;
}

abbrev pub decreases-loop-at : goal.decreases-loop-at
decreases-loop-at l = length l.text - l.at
