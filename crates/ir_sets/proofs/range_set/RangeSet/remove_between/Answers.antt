use Rattle.std.proofs.Common.{false, ◌*◌, ◌≡◌, min, ap, ◌∙◌, length, arith}
use Rattle.std.proofs.lemmas.List.{with_items_is}
use Rattle.ir_sets.proofs.Parts.{set_becomes, taken_within, taken_nothing}
use Rattle.ir_sets.proofs.range_set.RangeSet.remove_between.Goals as goal

pub returns : goal.returns
returns c =
    let words = c.self.inside.words.items in
    let some = c.self.inside.some.items in
    let full = c.self.inside.full.items in
    let items = with_items_is c.self.inside.words c.take_all.new.words (c.take_all.ensures.len ∙ c.deref_mut.ensures.len) in
    let items_of_some = with_items_is c.self.inside.some c.take_all.new.some (c.take_all.ensures.len_of_some ∙ c.deref_mut-2.ensures.len) in
    let items_of_full = with_items_is c.self.inside.full c.take_all.new.full (c.take_all.ensures.len_of_full ∙ c.deref_mut-3.ensures.len) in
    let taken = rw (c.deref_mut.ensures.value, c.deref_mut-2.ensures.value, c.deref_mut-3.ensures.value) at c.take_all.ensures.taken in
    let count = c.self.inside.words.ok.0 in
    let within : c.min-within.result ≡ min c.args.end (64 * length words) = omega (arith, c.min-within.ensures, c.len.ensures, count) in
    rw (← c.self.view_is, items, items_of_some, items_of_full)
    (set_becomes false words some full c.take_all.new.words c.take_all.new.some c.take_all.new.full c.args.from c.args.end c.self.invariant c.take_all.ensures.are
    (taken_within words some full c.take_all.new.words c.take_all.new.some c.take_all.new.full c.args.from c.args.end c.min-within.result c.self.invariant c.take_all.ensures.are (c.take_all.ensures.len ∙ ap length c.deref_mut.ensures.value) within taken))

pub returns-then-from-within : goal.returns-then-from-within
returns-then-from-within c =
    let words = c.self.inside.words.items in
    let some = c.self.inside.some.items in
    let full = c.self.inside.full.items in
    let count = c.self.inside.words.ok.0 in
    rw (← c.self.view_is)
    (set_becomes false words some full words some full c.args.from c.args.end c.self.invariant c.self.invariant
    (taken_nothing words some full c.args.from c.args.end c.self.invariant (omega (arith, c.min-within.ensures, c.len.ensures, count, c.if-from-within.true))))
