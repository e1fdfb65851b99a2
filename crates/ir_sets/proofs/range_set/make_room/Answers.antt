use Rattle.ir_sets.proofs.Parts.{number_longer, unchanged}
use Rattle.ir_sets.proofs.range_set.make_room.Goals as goal

pub returns-in_err-reserve-2-clause-same : goal.returns-in_err-reserve-2-clause-same
returns-in_err-reserve-2-clause-same c =
    number_longer c.args.words.now.items c.args.some.now.items c.args.full.now.items c.args.words.now.items c.reserve.new.words.items c.reserve-2.new.words.items (unchanged c.args.words.now.items)
    (record { longer = c.reserve.ensures.longer; same = c.reserve.ensures.bits }) (record { longer = c.reserve-2.ensures.longer; same = c.reserve-2.ensures.bits })

pub returns-in_err-reserve-3-clause-same : goal.returns-in_err-reserve-3-clause-same
returns-in_err-reserve-3-clause-same c =
    number_longer c.args.words.now.items c.args.some.now.items c.args.full.now.items c.reserve-3.new.words.items c.reserve.new.words.items c.reserve-2.new.words.items
    (record { longer = c.reserve-3.ensures.longer; same = c.reserve-3.ensures.bits }) (record { longer = c.reserve.ensures.longer; same = c.reserve.ensures.bits }) (record { longer = c.reserve-2.ensures.longer; same = c.reserve-2.ensures.bits })

pub returns-clause-same : goal.returns-clause-same
returns-clause-same c =
    number_longer c.args.words.now.items c.args.some.now.items c.args.full.now.items c.reserve-3.new.words.items c.reserve.new.words.items c.reserve-2.new.words.items
    (record { longer = c.reserve-3.ensures.longer; same = c.reserve-3.ensures.bits }) (record { longer = c.reserve.ensures.longer; same = c.reserve.ensures.bits }) (record { longer = c.reserve-2.ensures.longer; same = c.reserve-2.ensures.bits })
