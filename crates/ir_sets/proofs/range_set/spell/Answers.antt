use Rattle.std.proofs.Common.{◌-◌, ◌^◌, inl, inr, true≢false, sym, refl, ◌∙◌}
use Rattle.std.proofs.lemmas.Bool.{cases_eq}
use Rattle.ir_sets.proofs.Parts.{changes_nothing, changes_there, number_spelled, without_here, without_elsewhere}
use Rattle.ir_sets.proofs.range_set.spell.Goals as goal

pub returns-then-not-contains-clause-spelled : goal.returns-then-not-contains-clause-spelled
returns-then-not-contains-clause-spelled c = sym c.if-not-contains.ensures

pub returns-then-not-contains-clause-fewer_full : goal.returns-then-not-contains-clause-fewer_full
returns-then-not-contains-clause-fewer_full c m one = one

pub returns-then-not-contains-clause-changes : goal.returns-then-not-contains-clause-changes
returns-then-not-contains-clause-changes c = changes_nothing c.args.words.now c.args.some.now c.args.index

pub returns-then-not-contains-clause-same : goal.returns-then-not-contains-clause-same
returns-then-not-contains-clause-same c n = refl

pub returns-clause-spelled : goal.returns-clause-spelled
returns-clause-spelled c = without_here c.args.full.now c.remove.new.words c.args.index c.args.index c.remove.ensures.bits refl

pub returns-clause-fewer_full : goal.returns-clause-fewer_full
returns-clause-fewer_full c m one =
    elim (cases_eq m c.args.index) [
      | inl is ↦ absurd (true≢false (sym one ∙ without_here c.args.full.now c.remove.new.words c.args.index m c.remove.ensures.bits is))
      | inr far ↦ sym (without_elsewhere c.args.full.now c.remove.new.words c.args.index m c.remove.ensures.bits far) ∙ one
    ]

pub returns-clause-changes : goal.returns-clause-changes
returns-clause-changes c = changes_there c.args.words.now c.args.some.now c.insert.new.words c.args.index (2 ^ 64 - 1) c.requires.within c.insert.ensures.bits

pub returns-clause-same : goal.returns-clause-same
returns-clause-same c =
    number_spelled c.args.words.now c.args.some.now c.insert.new.words c.args.index (2 ^ 64 - 1) c.requires.within c.insert.ensures.bits
    c.args.full.now c.remove.new.words refl (sym c.if-not-contains.ensures) c.remove.ensures.bits
