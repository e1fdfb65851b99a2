use Rattle.std.proofs.Common.{◌≡◌, ◌++◌, ap, ◌∙◌}
use Rattle.std.proofs.lemmas.Result.{on_ok_weaker}
use Rattle.ir_types.specs.judged.Plain.{inner_view}
use Rattle.judgement_report.proofs.LeavesWritten.{one_line}
use Rattle.judgement_report.specs.Lines.{leaf_line, listing_line, listing_lines, repeat_words}
use Rattle.typing_forms.specs.judged.Sizes.{type_size}
use Rattle.judgement_report.proofs.leaf_rows.add_leaf.Goals as goal

pub returns : goal.returns
returns c =
    let path = c.args.path.now in
    let words = repeat_words c.args.repeats.now in
    let old = listing_lines c.args.out.now.rows.items in
    on_ok_weaker c.push.result
    (λ (e : listing_lines c.push.new.self.rows.items ≡ old ++ listing_line c.in_ok-row.row).
    one_line path words c.args.start (type_size (inner_view c.args.inner.now)) c.args.alignment old (listing_lines c.push.new.self.rows.items)
    (e ∙ ap (λ line. old ++ line) (c.in_ok-row.ensures ∙ ap (λ n. leaf_line path words c.args.start n c.args.alignment) c.size.ensures))) c.push.ensures
