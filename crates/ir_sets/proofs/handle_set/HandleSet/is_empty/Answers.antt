use Rattle.ir_sets.proofs.Members.{empty_when}
use Rattle.ir_sets.proofs.handle_set.HandleSet.is_empty.Goals as goal

pub returns : goal.returns
returns g c =
    rw (← c.self.view_is)
    (empty_when c.self.inside.words.items c.greatest.result c.is_none.result c.is_none.ensures
    (rw c.deref.ensures.value at c.greatest.ensures.none) (rw c.deref.ensures.value at c.greatest.ensures.some))
