use Rattle.ir_sets.proofs.Parts.{same_numbers}
use Rattle.ir_sets.proofs.range_set.RangeSet.reserve.Goals as goal

pub returns : goal.returns
returns c =
    rw (← c.self.view_is)
    (same_numbers c.self.inside.words.items c.self.inside.some.items c.self.inside.full.items c.make_room.new.words.items c.make_room.new.some.items c.make_room.new.full.items c.self.invariant c.make_room.ensures.are c.make_room.ensures.same)
