use Rattle.ir_sets.proofs.Parts.{contains-numbers}
use Rattle.ir_sets.proofs.range_set.RangeSet.contains.Goals as goal

pub returns : goal.returns
returns c =
    let is = contains-numbers c.self.inside.words.items c.self.inside.some.items c.self.inside.full.items c.self.invariant c.args.number in
    rw (← c.self.view_is) (cc (is, c.has.ensures, c.deref.ensures.value, c.deref-2.ensures.value, c.deref-3.ensures.value))
