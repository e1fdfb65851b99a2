use Rattle.std.proofs.Common.{◌≡◌, ◌<◌, ◌++◌, [], length, sym, subst, ◌∙◌}
use Rattle.std.proofs.lemmas.Result.{on_ok_weaker}
use Rattle.ir_items.specs.found.GlobalView.{global_view}
use Rattle.ir_items.specs.found.View.{module_view}
use Rattle.judgement_report.proofs.Reported.{buffer_described, counted_there}
use Rattle.judgement_report.specs.Lines.{listing_lines, repeat_words, row_lines}
use Rattle.judgement_report.specs.Paths.{parts_at, path_along}
use Rattle.judgement.proofs.Buffers.{types_go_back}
use Rattle.judgement_report.specs.Runs.{listed}
use Rattle.typing_layout.specs.judged.View.{type_tree}
use Rattle.judgement_report.proofs.listing.add_variable.Goals as goal

pub layout-layout-requires : goal.layout-layout-requires
layout-layout-requires c =
    let m = module_view c.args.«module».now in
    subst (λ n. c.counted-ty.result < n) (sym c.requires.layouts.all)
    (subst (λ t. t < length m.types) (sym c.counted-ty.ensures) (counted_there m.types (types_go_back m c.requires.handles) c.args.variable.now.ty c.requires.typed))

pub add_along-requires-clause-back : goal.add_along-requires-clause-back
add_along-requires-clause-back c = types_go_back (module_view c.args.«module».now) c.requires.handles

pub returns : goal.returns
returns c =
    let m = module_view c.args.«module».now in
    on_ok_weaker c.add_along.result
    (λ (e : listing_lines c.add_along.new.out.rows.items ≡ listing_lines c.add_buffer.new.out.rows.items ++ row_lines (path_along m.types [] (parts_at m.types c.counted-ty.result)) [] 0 (listed (type_tree m.types c.counted-ty.result))).
    buffer_described m.types (types_go_back m c.requires.handles) c.args.number (global_view c.args.variable.now) c.counted-ty.result _ c.layout-layout.result (listing_lines c.args.out.now.rows.items) (listing_lines c.add_buffer.new.out.rows.items) (listing_lines c.add_along.new.out.rows.items)
    (sym c.is_buffer.ensures ∙ c.if-not-is_buffer.false) c.counted-ty.ensures
    (c.requires.layouts.layouts.each c.counted-ty.result c.layout-layout.result c.layout-layout.ensures) c.get.ensures.value c.in_ok-add_buffer.ensures e) c.add_along.ensures
