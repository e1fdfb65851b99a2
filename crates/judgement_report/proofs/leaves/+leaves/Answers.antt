use Rattle.std.proofs.Common.{◌≡◌, ◌++◌, OnOk, sym, subst}
use Rattle.ir_types.specs.judged.Plain.{inner_view}
use Rattle.judgement_report.proofs.Listed.{no_elements, one_element_more, one_member_more, none_along, missing_along, found_along, nothing_added}
use Rattle.judgement_report.specs.Rows.{rows}
use Rattle.judgement.specs.judged.Leaves.{leaves}
use Rattle.typing_forms.specs.judged.Resolutions.{types_view}
use Rattle.typing_layout.specs.judged.View.{tree_along}
use Rattle.judgement_report.proofs.leaves.+leaves.Goals as goal

pub add_along-returns-then-depth-eq0 : goal.add_along-returns-then-depth-eq0
add_along-returns-then-depth-eq0 t c = nothing_added _ _ _ (none_along (types_view c.args.types.now) c.args.depth c.args.handle (let h = c.if-depth-eq0.true in h))

pub add_along-returns-in-Some : goal.add_along-returns-in-Some
add_along-returns-in-Some t c =
    let step = found_along (types_view c.args.types.now) c.args.depth c.args.handle (inner_view c.in-Some.inner.now) c.if-depth-eq0.false (sym c.in-Some.ensures) in
    subst (λ x. OnOk c.add_inner.result (c.add_inner.new.out.items ≡ c.args.out.now.items ++ rows c.args.start (leaves 1 x))) (sym step) c.add_inner.ensures

pub add_along-returns-in-None : goal.add_along-returns-in-None
add_along-returns-in-None t c = nothing_added _ _ _ (missing_along (types_view c.args.types.now) c.args.depth c.args.handle (sym c.in-None.ensures))

pub add_elements-loop-place-init : goal.add_elements-loop-place-init
add_elements-loop-place-init t c = no_elements _ _ _ _

pub add_elements-loop-place-preserved : goal.add_elements-loop-place-preserved
add_elements-loop-place-preserved t c = one_element_more _ _ _ _ _ _ _ c.loop-place.invariant (rw (c.from.ensures, c.from-in-loop-place.ensures) at c.in_ok-add_along.ensures)

pub add_members-loop-member-preserved : goal.add_members-loop-member-preserved
add_members-loop-member-preserved t c =
    one_member_more (tree_along (types_view c.args.types.now) c.args.depth) c.args.members.now c.loop-member.member-index c.args.start c.member-item.result _ _ _ c.loop-member-test.true c.member-item.is
    c.loop-member.invariant (rw c.from-offset.ensures at c.in_ok-add_along.ensures)
