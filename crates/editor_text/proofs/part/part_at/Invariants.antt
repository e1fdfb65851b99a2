use Rattle.std.proofs.Common.{◌≤◌, length}
use Rattle.editor_text.proofs.part.part_at.Given as goal

abbrev pub invariant-loop-index : goal.invariant-loop-index
invariant-loop-index l = l.start ≤ length l.text
