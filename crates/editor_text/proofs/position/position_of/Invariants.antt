use Rattle.std.proofs.Common.{◌≡◌, ◌*◌, ◌≤◌}
use Rattle.editor_text.specs.Positions.{position_at}
use Rattle.editor_text.proofs.position.position_of.Given as goal

abbrev pub invariant-loop-place : goal.invariant-loop-place
invariant-loop-place l = record {
  is : l.position ≡ position_at l.encoding l.text l.place;
  line : l.position.line ≤ l.place;
  column : l.position.column ≤ 2 * l.place;
}
