use Rattle.std.specs.FinSet as set
use Rattle.ir_sets.specs.Ranges.{has_number, numbers}
use Rattle.ir_sets.proofs.Parts.{contains-numbers, same_meets}
use Rattle.ir_sets.proofs.range_set.RangeSet.meets.Goals as goal

pub returns : goal.returns
returns c =
    let words = c.self.inside.words.items in
    let some = c.self.inside.some.items in
    let full = c.self.inside.full.items in
    rw (← c.self.view_is)
    (same_meets (has_number words some full) (set.contains (numbers words some full)) c.args.from c.args.end (contains-numbers words some full c.self.invariant) c.meets_all.result
    (rw (c.deref.ensures.value, c.deref-2.ensures.value, c.deref-3.ensures.value) at c.meets_all.ensures))
