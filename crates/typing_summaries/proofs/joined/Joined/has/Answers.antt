use Rattle.std.proofs.Common.{subst}
use Rattle.typing_rules.specs.judged.Laws.{IsAmong}
use Rattle.typing_summaries.proofs.PassedLemmas.{at_place}
use Rattle.typing_summaries.proofs.joined.Joined.has.Goals as goal

pub returns-in-Some-get : goal.returns-in-Some-get
returns-in-Some-get c = λ t.
    let same = c.is_same.ensures t in
    let p = c.in-Some-get.passed.now in
    let l = c.in-Some-get.ensures.lookup in
    (p, subst (IsAmong p) c.deref.ensures.value (at_place c.deref.result.now c.in-Some.place.now p l.3.0 l.1), same.0, same.1)
