use Rattle.std.proofs.Common.{◌≡◌, ◌+◌, ◌*◌, ◌++◌, drop, map}
use Rattle.ir_types.specs.judged.Plain.{member_view}
use Rattle.judgement_report.specs.Rows.{rows}
use Rattle.judgement.specs.judged.Leaves.{leaves, member_leaves, repeated}
use Rattle.typing_forms.specs.judged.Resolutions.{types_view}
use Rattle.typing_layout.specs.judged.View.{members_by, tree_along}
use Rattle.judgement_report.proofs.leaves.+leaves.Given as goal

abbrev pub decreases-add_along : goal.decreases-add_along
decreases-add_along l = 3 * l.depth

abbrev pub decreases-add_elements : goal.decreases-add_elements
decreases-add_elements l = 3 * l.depth + 1

abbrev pub decreases-add_members : goal.decreases-add_members
decreases-add_members l = 3 * l.depth + 1

abbrev pub decreases-add_inner : goal.decreases-add_inner
decreases-add_inner l = 3 * l.depth + 2

-- the leaves of the elements so far
abbrev pub invariant-add_elements-loop-place : goal.invariant-add_elements-loop-place
invariant-add_elements-loop-place l = l.out.items ≡ l.fn.out.items ++ rows l.start (repeated l.place 0 l.stride (leaves 1 (tree_along (types_view l.types) l.depth l.base)))

-- the leaves so far, with those of the rest, are those of all
abbrev pub invariant-add_members-loop-member : goal.invariant-add_members-loop-member
invariant-add_members-loop-member l =
    l.out.items ++ rows l.start (member_leaves 1 l.member-index (members_by (tree_along (types_view l.types) l.depth) (map member_view (drop l.member-index l.members))))
    ≡ l.fn.out.items ++ rows l.start (member_leaves 1 0 (members_by (tree_along (types_view l.types) l.depth) (map member_view l.members)))
