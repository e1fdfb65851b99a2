use Rattle.ir_sets.proofs.Parts.{ranges_of_none, no_numbers}
use Rattle.ir_sets.proofs.range_set.RangeSet.new.Goals as goal

pub invariant_of-result : goal.invariant_of-result
invariant_of-result c = rw (c.new.ensures.items, c.new-2.ensures.items, c.new-3.ensures.items) ranges_of_none

pub returns : goal.returns
returns c = rw (c.new.ensures.items, c.new-2.ensures.items, c.new-3.ensures.items) no_numbers
