use Rattle.std.proofs.Common.{◌↔◌, ◌<◌, ◌+◌, ◌*◌, ◌⊎◌, ℕ, drop, map}
use Rattle.module_globals.specs.Reached.{IsReachedIn, IsReachedAmong}
use Rattle.module_globals.specs.Slots.{IsIn}
use Rattle.ir_types.specs.judged.Plain.{member_view}
use Rattle.typing_layout.specs.judged.View.{members_by, tree_along}
use Rattle.typing_forms.specs.judged.Resolutions.{types_view}
use Rattle.module_globals.proofs.leaves.+leaves.Given as goal

abbrev pub decreases-slots_along : goal.decreases-slots_along
decreases-slots_along l = 3 * l.depth

abbrev pub decreases-slots_of_elements : goal.decreases-slots_of_elements
decreases-slots_of_elements l = 3 * l.depth + 1

abbrev pub decreases-slots_of_members : goal.decreases-slots_of_members
decreases-slots_of_members l = 3 * l.depth + 1

abbrev pub decreases-slots_of : goal.decreases-slots_of
decreases-slots_of l = 3 * l.depth + 2

-- the slots so far are those of the elements before this one
abbrev pub invariant-slots_of_elements-loop-place : goal.invariant-slots_of_elements-loop-place
invariant-slots_of_elements-loop-place l = (k : ℕ) → k < 64 → IsIn l.slots.0 k ↔ IsReachedAmong k (tree_along (types_view l.types) l.depth l.base) l.stride l.offset l.place

-- the slots so far, with those of the rest, are those of all
abbrev pub invariant-slots_of_members-loop-member : goal.invariant-slots_of_members-loop-member
invariant-slots_of_members-loop-member l =
    (k : ℕ) → k < 64
    → (IsIn l.slots.0 k ⊎ IsReachedIn k (members_by (tree_along (types_view l.types) l.depth) (map member_view (drop l.member-index l.members))) l.offset)
    ↔ IsReachedIn k (members_by (tree_along (types_view l.types) l.depth) (map member_view l.members)) l.offset
