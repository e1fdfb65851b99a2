use Rattle.std.proofs.Common.{true, ◌∙◌}
use Rattle.std.proofs.lemmas.List.{with_items_is}
use Rattle.ir_sets.specs.Ranges.{has_number}
use Rattle.ir_sets.proofs.Members.{OnErr-always}
use Rattle.ir_sets.proofs.Parts.{same_numbers, set_becomes, becomes_since, becomes_none}
use Rattle.ir_sets.proofs.range_set.RangeSet.insert_between.Goals as goal

pub returns-clause-added : goal.returns-clause-added
returns-clause-added c =
    let words = c.self.inside.words.items in
    let some = c.self.inside.some.items in
    let full = c.self.inside.full.items in
    let items = with_items_is c.make_room.new.words c.add_all.new.words (c.add_all.ensures.len ∙ c.deref_mut.ensures.len) in
    let items_of_some = with_items_is c.make_room.new.some c.add_all.new.some (c.add_all.ensures.len_of_some ∙ c.deref_mut-2.ensures.len) in
    let items_of_full = with_items_is c.make_room.new.full c.add_all.new.full (c.add_all.ensures.len_of_full ∙ c.deref_mut-3.ensures.len) in
    let added = rw (c.deref_mut.ensures.value, c.deref_mut-2.ensures.value, c.deref_mut-3.ensures.value) at c.add_all.ensures.added in
    rw (← c.self.view_is, items, items_of_some, items_of_full)
    (set_becomes true words some full c.add_all.new.words c.add_all.new.some c.add_all.new.full c.args.from c.args.end c.self.invariant c.add_all.ensures.are
    (becomes_since true (has_number words some full) (has_number c.make_room.new.words.items c.make_room.new.some.items c.make_room.new.full.items) (has_number c.add_all.new.words c.add_all.new.some c.add_all.new.full) c.args.from c.args.end c.make_room.ensures.same added))

pub returns-then-from-end-clause-added : goal.returns-then-from-end-clause-added
returns-then-from-end-clause-added c =
    let words = c.self.inside.words.items in
    let some = c.self.inside.some.items in
    let full = c.self.inside.full.items in
    rw (← c.self.view_is)
    (set_becomes true words some full c.make_room.new.words.items c.make_room.new.some.items c.make_room.new.full.items c.args.from c.args.end c.self.invariant c.make_room.ensures.are
    (becomes_since true (has_number words some full) (has_number c.make_room.new.words.items c.make_room.new.some.items c.make_room.new.full.items) (has_number c.make_room.new.words.items c.make_room.new.some.items c.make_room.new.full.items) c.args.from c.args.end c.make_room.ensures.same
    (becomes_none true (has_number c.make_room.new.words.items c.make_room.new.some.items c.make_room.new.full.items) c.args.from c.args.end c.if-from-end.true)))

pub returns-in_err-make_room-clause-err : goal.returns-in_err-make_room-clause-err
returns-in_err-make_room-clause-err c =
    let words = c.self.inside.words.items in
    let some = c.self.inside.some.items in
    let full = c.self.inside.full.items in
    rw (← c.self.view_is)
    (OnErr-always c.from_residual.result
    (same_numbers words some full c.make_room.new.words.items c.make_room.new.some.items c.make_room.new.full.items c.self.invariant c.make_room.ensures.are c.make_room.ensures.same))
