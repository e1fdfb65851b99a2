use Rattle.std.proofs.Common.{◌≡◌, ◌*◌, ◌≤◌}
use Rattle.editor_text.specs.Positions.{position_at, IsUpTo}
use Rattle.editor_text.proofs.position.byte_of.Given as goal

abbrev pub invariant-loop-place : goal.invariant-loop-place
invariant-loop-place l = record {
  is : l.found ≡ position_at l.encoding l.text l.place;
  line : l.found.line ≤ l.place;
  column : l.found.column ≤ 2 * l.place;
  reached : IsUpTo l.found l.position;
}
