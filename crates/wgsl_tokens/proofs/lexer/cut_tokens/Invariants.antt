-- The tokens so far are in order up to the next byte.
use Rattle.std.proofs.Common.{◌-◌, ◌≤◌, length}
use Rattle.wgsl_tokens.specs.Cut.{Covers}
use Rattle.wgsl_tokens.proofs.lexer.cut_tokens.Given as goal

abbrev pub invariant-loop-at : goal.invariant-loop-at
invariant-loop-at l = record {
  covers : Covers 0 l.at l.tokens.items;
  within : l.at ≤ length l.text;
}

abbrev pub decreases-loop-at : goal.decreases-loop-at
decreases-loop-at l = length l.text - l.at
