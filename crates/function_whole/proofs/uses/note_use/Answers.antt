use Rattle.std.proofs.Common.{◌∙◌, ap}
use Rattle.std.specs.Int.Bits.{and_self}
use Rattle.std.specs.Prelude.{bit_and}
use Rattle.function_whole.proofs.Noted.{noted_none, noted_one, or_false}
use Rattle.function_whole.proofs.uses.note_use.Goals as goal

pub returns-in-None-clause-uses : goal.returns-in-None-clause-uses
returns-in-None-clause-uses g c = λ v k. noted_none c.args.global c.args.kinds v k c.in-None.is

pub returns-in-Some-clause-uses : goal.returns-in-Some-clause-uses
returns-in-Some-clause-uses g c = λ v k. noted_one c.args.global c.in-Some.global c.args.kinds v k c.in-Some.is (c.note.ensures.uses v k)

pub returns-in-Some-clause-stages : goal.returns-in-Some-clause-stages
returns-in-Some-clause-stages g c =
    let before = g.L.Lower.noted c.args.lower.now c.args.info.now in
    c.note.ensures.stages ∙ (ap (λ s. bit_and before.0 s.0) c.stages-stages.ensures ∙ and_self before.0)

pub returns-in-Some-clause-blending : goal.returns-in-Some-clause-blending
returns-in-Some-clause-blending g c = c.note.ensures.blending ∙ or_false (g.L.Lower.blending c.args.lower.now c.args.info.now)
