use Rattle.ir_sets.proofs.Members.{len_members}
use Rattle.ir_sets.proofs.handle_set.HandleSet.len.Goals as goal

pub returns : goal.returns
returns g c =
    let is = len_members c.self.inside.words.items in
    rw (← c.self.view_is) (cc (is, c.count.ensures, c.deref.ensures.value))
