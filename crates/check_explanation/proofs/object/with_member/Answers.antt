use Rattle.std.proofs.Common.{codes, ap, sym, ◌∙◌}
use Rattle.serde_json.specs.Find.{get}
use Rattle.serde_json.specs.View.{members_view, view}
use Rattle.serde_json.proofs.Views.{view-Object}
use Rattle.check_explanation.proofs.ObjectLaws.{one_more}
use Rattle.check_explanation.proofs.object.with_member.Goals as goal

pub returns-in_ok-put-in-Object : goal.returns-in_ok-put-in-Object
returns-in_ok-put-in-Object c =
    ap (get (codes "verdict")) (view-Object c.put.new.map)
    ∙ (one_more c.args.key.now (view c.args.member) (members_view c.in-Object.map.entries) (members_view c.put.new.map.entries) c.requires c.in_ok-put-in-Object.ensures.ok
    ∙ (ap (get (codes "verdict")) (sym (view-Object c.in-Object.map)) ∙ ap (λ v. get (codes "verdict") (view v)) (sym c.in-Object.is)))
