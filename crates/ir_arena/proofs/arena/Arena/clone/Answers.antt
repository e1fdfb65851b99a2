use Rattle.std.proofs.Common.{◌<◌, ◌∙◌, length, map, ap, arith}
use Rattle.ir_arena.specs.found.Arenas.{value_of_entry, span_of_entry}
use Rattle.ir_arena.proofs.Zipped.{length_map, value_read, span_read}
use Rattle.ir_arena.proofs.CopyLemmas.{entries_more, read_again}
use Rattle.ir_arena.proofs.arena.Arena.clone.Goals as goal

pub loop-place-preserved : goal.loop-place-preserved
loop-place-preserved g c =
    let entries = c.args.self.now in
    let place = c.loop-place.place in
    let values = c.values-values.ensures ∙ ap (map value_of_entry) c.self.view_is in
    let spans = c.spans-spans.ensures ∙ ap (map span_of_entry) c.self.view_is in
    let within : place < length entries = omega (arith, c.loop-place-test.true, ap length values, length_map value_of_entry entries) in
    entries_more g.T.Copied.view entries c.loop-place.copy c.append.new.self place c.index-values-place.result c.in_ok-copied.field-0 _ within
    (value_read c.values-values.result.now entries place c.index-values-place.result values within c.index-values-place.is) c.in_ok-copied.ensures
    (span_read c.spans-spans.result.now entries place _ spans within (read_again c.spans-spans.result.now place _ _ (omega (arith, within, ap length spans, length_map span_of_entry entries)))) c.loop-place.invariant c.in_ok-append.ensures.ok
