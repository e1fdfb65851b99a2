-- The maximum so far, and of the rest, is the maximum of all.
use Rattle.std.proofs.Common.{◌≡◌, ◌≤◌, ℕ, drop, map, max}
use Rattle.typing_forms.specs.IrTypes.{member_view}
use Rattle.typing_layout.specs.judged.Layout.{greatest_alignment}
use Rattle.typing_layout.specs.judged.Tree.{Tree}
use Rattle.typing_layout.specs.judged.View.{members_by}
use Rattle.typing_layout.specs.found.Laid.{AreAligned}
use Rattle.typing_layout.proofs.layout_of.greatest_alignment.Given as goal

abbrev pub invariant-loop-member : goal.invariant-loop-member
invariant-loop-member l =
    (1 ≤ l.greatest)
    × ((tree : ℕ → Tree) → AreAligned tree l.layouts
    → max l.greatest (greatest_alignment (members_by tree (map member_view (drop l.member-index l.members)))) ≡ greatest_alignment (members_by tree (map member_view l.members)))
