use Rattle.std.proofs.lemmas.Option.{slice_get_read, slice_get-map}
use Rattle.std.proofs.Common.{rules, ◌<◌, ◌∙◌, ap, length, option_map, refl}
use Rattle.ir_items.specs.found.View.{entry_view, module_view}
use Rattle.judgement_report.proofs.Written.{one_more}
use Rattle.judgement_report.proofs.entries.tell_entries.Goals as goal

pub loop-number-preserved : goal.loop-number-preserved
loop-number-preserved g c =
    let items = c.args.«module».now.entry_points.items in
    let within : c.loop-number.number < length items = search rules in
    let at = slice_get-map entry_view items c.loop-number.number ∙ ap (option_map entry_view) (slice_get_read items (length items) c.loop-number.number c.index-entry.result.now refl within c.index-entry.ensures) in
    one_more (module_view c.args.«module».now) c.loop-number.number (entry_view c.index-entry.result.now) c.get_entry_point.result.now (g.S.RowSink.told c.args.out.now) (g.S.RowSink.told c.loop-number.out) (g.S.RowSink.told c.tell_entry.new.out) at
    (c.requires.each c.loop-number.number (entry_view c.index-entry.result.now) c.get_entry_point.result.now at c.get_entry_point.ensures) c.loop-number.invariant c.in_ok-tell_entry.ensures
