use Rattle.std.proofs.Common.{◌<◌, length, arith}
use Rattle.ir_arena.proofs.Zipped.{value_read, span_read}
use Rattle.ir_arena.proofs.CopyLemmas.{read_again}
use Rattle.ir_sets.proofs.Copied.{values_more}
use Rattle.ir_sets.proofs.unique_arena.UniqueArena.clone.Goals as goal

pub loop-place-preserved : goal.loop-place-preserved
loop-place-preserved g c =
    let entries = c.args.self.now in
    let place = c.loop-place.place in
    let within : place < length entries = omega (arith, c.loop-place-test.true, c.len-place-end.ensures.value) in
    values_more g.T.Copied.view g.T.PartialEq.eq g.met.T.Eq.laws c.requires
    entries c.loop-place.copy c.insert.new.self place c.index-values-place.result c.in_ok-copied.field-0 _
    c.len-place-end.ensures.distinct
    within
    (value_read c.values-values.result.now entries place c.index-values-place.result c.values-values.ensures.values within c.index-values-place.is)
    c.in_ok-copied.ensures
    (span_read c.spans-spans.result.now entries place _ c.spans-spans.ensures.spans within (read_again c.spans-spans.result.now place _ _ (omega (arith, within, c.spans-spans.ensures.len))))
    c.loop-place.invariant c.in_ok-insert.ensures.appends
