use Rattle.std.proofs.Common.{codes, subst}
use Rattle.serde_json.specs.Data.{string}
use Rattle.serde_json.specs.View.{view}
use Rattle.check_faults.specs.Objects.{Has}
use Rattle.check_explanation.proofs.ObjectLaws.{said_still}
use Rattle.check_explanation.proofs.object.refused_text.Goals as goal

pub spelled-requires : goal.spelled-requires
spelled-requires c = said_still c.args.finding (view c.in_ok-plain.plain) (view c.in_ok-placed.placed) (view c.in_ok-whole.whole)
    (subst (λ word. Has (view c.in_ok-plain.plain) (codes "verdict") (string word)) c.verdict_word.ensures c.in_ok-plain.ensures) c.in_ok-placed.ensures c.in_ok-whole.ensures
