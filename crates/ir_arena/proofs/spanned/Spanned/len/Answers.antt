use Rattle.std.proofs.Common.{◌∙◌}
use Rattle.ir_arena.proofs.Zipped.{opened}
use Rattle.ir_arena.proofs.spanned.Spanned.len.Goals as goal

pub returns : goal.returns
returns g c = c.len.ensures ∙ (c.self.inside.values.ok.0 ∙ (opened _ _ _ c.self.view_is c.self.invariant).values_length)
