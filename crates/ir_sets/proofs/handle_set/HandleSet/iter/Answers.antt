use Rattle.ir_sets.proofs.Members.{members_in_order}
use Rattle.ir_sets.proofs.handle_set.HandleSet.iter.Goals as goal

pub returns : goal.returns
returns g c = rw (← c.self.view_is, c.new.ensures, c.deref.ensures.value) (members_in_order c.self.inside.words.items)
