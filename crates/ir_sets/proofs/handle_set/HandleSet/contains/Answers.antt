use Rattle.ir_sets.proofs.Members.{contains-members}
use Rattle.ir_sets.proofs.handle_set.HandleSet.contains.Goals as goal

pub returns : goal.returns
returns g c =
    let is = contains-members c.self.inside.words.items c.index.result in
    rw (← c.self.view_is, ← c.index.ensures.value) (cc (is, c.contains.ensures, c.deref.ensures.value))
