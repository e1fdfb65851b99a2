use Rattle.std.proofs.Common.{◌≡◌, ◌+◌, ◌*◌, ◌++◌, drop, map, string_bytes}
use Rattle.ir_types.specs.judged.Plain.{member_view}
use Rattle.judgement_report.specs.Lines.{listing_lines, repeat_words, row_lines}
use Rattle.judgement_report.specs.Paths.{named, path_along}
use Rattle.judgement_report.specs.Runs.{member_rows}
use Rattle.typing_forms.specs.judged.Resolutions.{types_view}
use Rattle.typing_layout.specs.judged.View.{members_by, type_tree}
use Rattle.judgement_report.proofs.leaf_rows.+rows.Given as goal

abbrev pub decreases-add_along : goal.decreases-add_along
decreases-add_along l = 3 * l.depth

abbrev pub decreases-add_elements : goal.decreases-add_elements
decreases-add_elements l = 3 * l.depth + 1

abbrev pub decreases-add_members : goal.decreases-add_members
decreases-add_members l = 3 * l.depth + 1

abbrev pub decreases-add_inner : goal.decreases-add_inner
decreases-add_inner l = 3 * l.depth + 2

-- the text so far, with the lines of the rest, is the text of all
abbrev pub invariant-add_members-loop-place : goal.invariant-add_members-loop-place
invariant-add_members-loop-place l =
    listing_lines l.out.rows.items
    ++ row_lines (path_along (types_view l.types) l.path (named (map member_view l.members))) (repeat_words l.repeats) l.start (member_rows l.place (members_by (type_tree (types_view l.types)) (map member_view (drop l.place l.members))))
    ≡ listing_lines l.fn.out.rows.items
    ++ row_lines (path_along (types_view l.types) l.path (named (map member_view l.members))) (repeat_words l.repeats) l.start (member_rows 0 (members_by (type_tree (types_view l.types)) (map member_view l.members)))
