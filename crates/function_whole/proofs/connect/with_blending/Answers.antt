use Rattle.std.proofs.Common.{◌∙◌, ap}
use Rattle.std.specs.Int.Bits.{and_self}
use Rattle.std.specs.Prelude.{bit_and}
use Rattle.function_whole.proofs.Noted.{noted_nothing}
use Rattle.function_whole.proofs.connect.with_blending.Goals as goal

pub returns-clause-same : goal.returns-clause-same
returns-clause-same g c = record { many = c.note.ensures.globals; uses = λ v k. noted_nothing v k (c.note.ensures.uses v k); pairs = c.note.ensures.pairs; may_kill = c.note.ensures.may_kill }

pub returns-clause-stages : goal.returns-clause-stages
returns-clause-stages g c =
    let before = g.L.Lower.noted c.args.lower.now c.args.info in
    c.note.ensures.stages ∙ (ap (λ s. bit_and before.0 s.0) c.stages-stages.ensures ∙ and_self before.0)
