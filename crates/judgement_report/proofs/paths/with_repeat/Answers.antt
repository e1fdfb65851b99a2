use Rattle.std.proofs.Common.{[], ◌∷◌, ◌++◌, ap, ◌∙◌}
use Rattle.std.proofs.lemmas.Result.{IfOk-weaker}
use Rattle.judgement_report.proofs.Kept.{none_more, one_more}
use Rattle.judgement_rows.specs.declared.rows.Repeat.{Repeat}
use Rattle.judgement_report.proofs.paths.with_repeat.Goals as goal

pub returns-then-count-eq1 : goal.returns-then-count-eq1
returns-then-count-eq1 c = IfOk-weaker c.copied.result _ _ (λ repeats is. none_more c.args.before.now repeats.items c.args.count c.args.stride c.if-count-eq1.true is) c.copied.ensures

pub returns : goal.returns
returns c =
    let r : Repeat = record { count = c.args.count; stride = c.args.stride } in
    one_more c.args.before.now c.append.new.repeats.items r c.if-count-eq1.false (c.in_ok-append.ensures ∙ ap (λ rs. rs ++ r ∷ []) c.in_ok-repeats.ensures)
