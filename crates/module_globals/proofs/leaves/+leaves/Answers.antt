use Rattle.std.proofs.Common.{◌+◌, drop, map, sym, arith}
use Rattle.ir_types.specs.judged.Plain.{inner_view, member_view}
use Rattle.module_globals.proofs.Parts.{far, element_more, element_all, element_rest, member_more, split_at, none_met, none_along, missing_along, found_along, met_found}
use Rattle.typing_layout.specs.judged.View.{tree_along}
use Rattle.typing_forms.specs.judged.Resolutions.{types_view}
use Rattle.module_globals.proofs.leaves.+leaves.Goals as goal
use Rattle.module_globals.proofs.leaves.+leaves.Goals.{slots_along-then-depth-eq0-via-then-depth-eq0, slots_along-then-depth-eq0-via-else-depth-eq0+then-offset-ge256}

pub slots_along-returns-then-depth-eq0 : goal.slots_along-returns-then-depth-eq0
slots_along-returns-then-depth-eq0 t c = λ k within. none_met k _ (elim c.then-depth-eq0.branch [
  | slots_along-then-depth-eq0-via-then-depth-eq0 w ↦ none_along (types_view c.args.types.now) c.args.depth c.args.handle k c.args.offset (let h = w.if-depth-eq0.true in h)
  | slots_along-then-depth-eq0-via-else-depth-eq0+then-offset-ge256 w ↦ far k (tree_along (types_view c.args.types.now) c.args.depth c.args.handle) c.args.offset (let h = w.if-offset-ge256.true in omega (arith, h, within))
])

pub slots_along-returns-in-Some : goal.slots_along-returns-in-Some
slots_along-returns-in-Some t c = λ k within.
    met_found k _ _ c.args.offset _ (found_along (types_view c.args.types.now) c.args.depth c.args.handle (inner_view c.in-Some.inner.now) c.if-depth-eq0.false (sym c.in-Some.ensures)) (c.slots_of.ensures k within)

pub slots_along-returns-in-None : goal.slots_along-returns-in-None
slots_along-returns-in-None t c = λ k within. none_met k _ (missing_along (types_view c.args.types.now) c.args.depth c.args.handle k c.args.offset (sym c.in-None.ensures))

pub slots_of_elements-returns-then-begin-ge256 : goal.slots_of_elements-returns-then-begin-ge256
slots_of_elements-returns-then-begin-ge256 t c = λ k within.
    element_rest k (tree_along (types_view c.args.types.now) c.args.depth c.args.base) c.args.stride c.args.offset c.loop-place.place c.apart-place-end.result c.args.count _ within c.loop-place-test.true
    (let h = c.if-begin-ge256.true in let e = c.begin_of-begin.ensures in omega (arith, h, e)) (c.loop-place.invariant k within) (c.apart-place-end.ensures k _ c.args.offset)

pub slots_of_elements-loop-place-preserved : goal.slots_of_elements-loop-place-preserved
slots_of_elements-loop-place-preserved t c = λ k within.
    element_more k (tree_along (types_view c.args.types.now) c.args.depth c.args.base) c.args.stride c.args.offset c.loop-place.place _ _ _ c.bitor-slots.ensures (c.loop-place.invariant k within) (rw c.begin_of-begin.ensures at c.slots_along.ensures k within)

pub slots_of_elements-returns : goal.slots_of_elements-returns
slots_of_elements-returns t c = λ k within.
    element_all k (tree_along (types_view c.args.types.now) c.args.depth c.args.base) c.args.stride c.args.offset c.loop-place.place c.apart-place-end.result c.args.count _ (omega arith) (c.loop-place.invariant k within) (c.apart-place-end.ensures k _ c.args.offset)

pub slots_of_members-loop-member-preserved : goal.slots_of_members-loop-member-preserved
slots_of_members-loop-member-preserved t c = λ k within.
    member_more k (tree_along (types_view c.args.types.now) c.args.depth) (member_view c.member-item.result) (map member_view (drop (c.loop-member.member-index + 1) c.args.members.now)) _
    (map member_view c.args.members.now) c.args.offset _ _ _ c.bitor-slots.ensures (split_at c.args.members.now c.loop-member.member-index c.member-item.result c.loop-member-test.true c.member-item.is)
    (rw (c.from.ensures, c.from-in-loop-member.ensures) at c.slots_along.ensures k within) (c.loop-member.invariant k within)
