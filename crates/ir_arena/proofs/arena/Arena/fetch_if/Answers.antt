use Rattle.ir_arena.proofs.arena.Arena.fetch_if.Goals as goal

pub returns-clause-none : goal.returns-clause-none
returns-clause-none g c = rw c.self.view_is at c.in-None.ensures.none
