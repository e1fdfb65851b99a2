use Rattle.std.proofs.Common.{sym, refl}
use Rattle.ir_sets.proofs.Parts.{changes_nothing, changes_there, counts_begun, with_here}
use Rattle.ir_sets.proofs.range_set.begin.Goals as goal

pub returns-then-contains-clause-begun : goal.returns-then-contains-clause-begun
returns-then-contains-clause-begun c = sym c.if-contains.ensures

pub returns-then-contains-clause-changes : goal.returns-then-contains-clause-changes
returns-then-contains-clause-changes c = changes_nothing c.args.words.now c.args.some.now c.args.index

pub returns-then-contains-clause-same : goal.returns-then-contains-clause-same
returns-then-contains-clause-same c n = refl

pub returns-clause-begun : goal.returns-clause-begun
returns-clause-begun c = with_here c.args.some.now c.insert.new.words c.args.index c.args.index c.insert.ensures.bits refl

pub returns-clause-changes : goal.returns-clause-changes
returns-clause-changes c = changes_there c.args.words.now c.args.some.now c.insert.new.words c.args.index 0 c.requires.within c.insert.ensures.bits

pub returns-clause-same : goal.returns-clause-same
returns-clause-same c = counts_begun c.args.words.now c.args.some.now c.insert.new.words c.args.index 0 c.requires.within c.insert.ensures.bits refl (sym c.if-contains.ensures)
