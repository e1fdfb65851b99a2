use Rattle.ir_items.proofs.Returned.{returned_by_bodies}
use Rattle.ir_items.proofs.laws.returned_by_bodies.Goals as goal

pub returns : goal.returns
returns c = returned_by_bodies
