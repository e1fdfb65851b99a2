use Rattle.std.proofs.Common.{◌≤◌, length}
use Rattle.editor_text.proofs.part.item_at.Given as goal

abbrev pub invariant-loop : goal.invariant-loop
invariant-loop l = l.at ≤ length l.text
