use Rattle.std.proofs.Common.{◌≤◌, map, arith}
use Rattle.typing_forms.specs.IrTypes.{member_view}
use Rattle.typing_layout.specs.judged.Layout.{greatest_alignment}
use Rattle.typing_layout.specs.judged.View.{members_by}
use Rattle.typing_layout.proofs.Alignments.{member_aligned, one_or_more, greatest_next, next_greatest}
use Rattle.typing_layout.proofs.layout_of.greatest_alignment.Goals as goal

pub loop-member-init : goal.loop-member-init
loop-member-init c = (
  omega arith,
  λ tree a. let h : 1 ≤ greatest_alignment (members_by tree (map member_view c.args.members.now)) = one_or_more _ in omega arith,
)

pub loop-member-preserved : goal.loop-member-preserved
loop-member-preserved c = (
  omega (arith, c.greater-greatest.ensures),
  λ tree a.
      next_greatest _ _ _ _ _ _ _ c.greater-greatest.ensures
      (member_aligned tree c.args.members.now c.args.layouts.now c.loop-member.member-index c.member-item.result c.index.result c.index-layouts-index.result c.requires c.loop-member-test.true c.member-item.is
      c.index.ensures.value a)
      (greatest_next tree c.args.members.now c.loop-member.member-index c.member-item.result c.loop-member-test.true)
      (c.loop-member.invariant.1 tree a),
)
