use Rattle.std.proofs.Common.{◌≡◌, ◌++◌, ◌∷◌, []}
use Rattle.std.proofs.lemmas.Result.{on_ok_weaker}
use Rattle.judgement_report.proofs.Kept.{kept}
use Rattle.judgement_report.specs.Lines.{row_line}
use Rattle.judgement_report.proofs.rows.keep_line.Goals as goal

pub returns : goal.returns
returns c = on_ok_weaker c.keep.result
    (λ (e : c.keep.new.rows.items ≡ c.args.rows.now.items ++ c.args.row ∷ []). kept row_line c.args.rows.now.items c.keep.new.rows.items c.args.row e) c.keep.ensures
