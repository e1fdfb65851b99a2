use Rattle.std.proofs.Common.{◌≡◌, ◌++◌, ◌∷◌, []}
use Rattle.std.proofs.lemmas.Result.{on_ok_weaker}
use Rattle.judgement_report.proofs.Kept.{kept}
use Rattle.judgement_report.specs.Lines.{listing_line}
use Rattle.judgement_report.proofs.leaf_rows.Listing.push.Goals as goal

pub returns : goal.returns
returns c = on_ok_weaker c.keep.result
    (λ (e : c.keep.new.self.rows.items ≡ c.args.self.now.rows.items ++ c.args.row ∷ []). kept listing_line c.args.self.now.rows.items c.keep.new.self.rows.items c.args.row e) c.keep.ensures
