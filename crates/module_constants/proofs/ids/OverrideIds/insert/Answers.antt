use Rattle.std.proofs.Common.{refl, sym, ◌∙◌, true≢false}
use Rattle.module_constants.proofs.Bits.{noted_now}
use Rattle.module_constants.proofs.ids.OverrideIds.insert.Goals as goal

pub returns-clause-noted : goal.returns-clause-noted
returns-clause-noted c =
    noted_now c.args.self.now _ c.make_room.new.words.items c.index-word.result.now c.from-place.result c.args.id c.from-place.ensures c.in_ok-make_room.ensures.kept c.in_ok-make_room.ensures.long c.index-word.ensures
    (λ has. true≢false (sym (c.has_bit.ensures.1 has) ∙ c.if-has_bit.false)) refl
