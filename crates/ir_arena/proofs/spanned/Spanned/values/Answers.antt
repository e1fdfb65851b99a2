use Rattle.std.proofs.Common.{◌∙◌}
use Rattle.ir_arena.proofs.Zipped.{opened}
use Rattle.ir_arena.proofs.spanned.Spanned.values.Goals as goal

pub returns : goal.returns
returns g c = c.as_slice.ensures.value ∙ (opened _ _ _ c.self.view_is c.self.invariant).values_are
