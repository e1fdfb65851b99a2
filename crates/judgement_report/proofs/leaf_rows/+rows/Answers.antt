use Rattle.std.proofs.Common.{◌≡◌, ◌++◌, OnOk, string_bytes, sym, subst}
use Rattle.std.proofs.lemmas.Result.{on_ok_weaker}
use Rattle.ir_types.specs.judged.Plain.{inner_view}
use Rattle.typing_layout.proofs.Trees.{tree_by_trees}
use Rattle.judgement_report.proofs.LeavesWritten.{elements_written, missing_listed, no_elements, one_member_more, nothing_written}
use Rattle.judgement_report.specs.Lines.{listing_lines, repeat_words, row_lines}
use Rattle.judgement_report.specs.Paths.{parts_at, parts_found, path_along}
use Rattle.judgement_report.specs.Runs.{listed}
use Rattle.typing_forms.specs.judged.Resolutions.{inner_at, types_view}
use Rattle.typing_layout.specs.judged.View.{tree_by, type_tree}
use Rattle.judgement_report.proofs.leaf_rows.+rows.Goals as goal

pub add_along-returns-in-Some : goal.add_along-returns-in-Some
add_along-returns-in-Some t c =
    let types = types_view c.args.types.now in
    let i = inner_view c.in-Some.inner.now in
    let step = tree_by_trees types c.requires.1.1.0 c.args.handle i (sym c.in-Some.ensures) in
    let here : OnOk c.add_inner.result (listing_lines c.add_inner.new.out.rows.items ≡ listing_lines c.args.out.now.rows.items ++ row_lines (path_along types c.args.path.now (parts_found (inner_at types c.args.handle))) (repeat_words c.args.repeats.now) c.args.start (listed (tree_by (type_tree types) i))) =
    subst (λ o. OnOk c.add_inner.result (listing_lines c.add_inner.new.out.rows.items ≡ listing_lines c.args.out.now.rows.items ++ row_lines (path_along types c.args.path.now (parts_found o)) (repeat_words c.args.repeats.now) c.args.start (listed (tree_by (type_tree types) i)))) c.in-Some.ensures c.add_inner.ensures in
    subst (λ x. OnOk c.add_inner.result (listing_lines c.add_inner.new.out.rows.items ≡ listing_lines c.args.out.now.rows.items ++ row_lines (path_along types c.args.path.now (parts_found (inner_at types c.args.handle))) (repeat_words c.args.repeats.now) c.args.start (listed x))) (sym step) here

pub add_along-returns-in-None : goal.add_along-returns-in-None
add_along-returns-in-None t c = nothing_written _ _ _ _ _ (missing_listed (types_view c.args.types.now) c.args.handle (sym c.in-None.ensures))

pub add_elements-returns-then-count-eq0 : goal.add_elements-returns-then-count-eq0
add_elements-returns-then-count-eq0 t c = no_elements _ _ _ _ _ _ _ (let h = c.if-count-eq0.true in h)

pub add_elements-returns : goal.add_elements-returns
add_elements-returns t c =
    let types = types_view c.args.types.now in
    let rs = listed (type_tree types c.args.base) in
    on_ok_weaker c.add_along.result
    (λ (e : listing_lines c.add_along.new.out.rows.items ≡ listing_lines c.args.out.now.rows.items ++ row_lines (path_along types (string_bytes c.in_ok-inside.inside) (parts_at types c.args.base)) (repeat_words c.in_ok-apart.apart.items) c.args.start rs).
    elements_written types c.args.path.now (string_bytes c.in_ok-inside.inside) (repeat_words c.args.repeats.now) (repeat_words c.in_ok-apart.apart.items) c.args.base c.args.start c.args.count c.args.stride rs (listing_lines c.args.out.now.rows.items) (listing_lines c.add_along.new.out.rows.items)
    c.if-count-eq0.false c.in_ok-inside.ensures c.in_ok-apart.ensures e) (rw (c.deref.ensures, c.deref-2.ensures.value) at c.add_along.ensures)

pub add_members-loop-place-preserved : goal.add_members-loop-place-preserved
add_members-loop-place-preserved t c =
    one_member_more (types_view c.args.types.now) (type_tree (types_view c.args.types.now)) c.args.members.now c.loop-place.place c.args.start c.index-members-place.result c.args.path.now (string_bytes c.in_ok-inside.inside) (repeat_words c.args.repeats.now)
    (listing_lines c.loop-place.out.rows.items) (listing_lines c.add_along.new.out.rows.items) _ c.loop-place-test.true c.index-members-place.is
    c.loop-place.invariant c.in_ok-inside.ensures (rw (c.from-offset.ensures, c.deref.ensures) at c.in_ok-add_along.ensures)
