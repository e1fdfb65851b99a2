use Rattle.ir_arena.proofs.Zipped.{opened}
use Rattle.ir_arena.proofs.spanned.Spanned.into_lists.Goals as goal

pub returns-clause-values : goal.returns-clause-values
returns-clause-values g c = (opened _ _ _ c.self.view_is c.self.invariant).values_are
