use Rattle.std.proofs.Common.{length, ap, ◌∙◌, arith}
use Rattle.ir_arena.proofs.Zipped.{opened}
use Rattle.ir_sets.proofs.unique_arena.UniqueArena.values.Goals as goal

pub returns-clause-values : goal.returns-clause-values
returns-clause-values g c = c.as_slice.ensures.keys ∙ (opened _ _ _ c.self.view_is c.self.invariant.0).values_are

pub returns-clause-len : goal.returns-clause-len
returns-clause-len g c = ap length c.as_slice.ensures.keys ∙ (opened _ _ _ c.self.view_is c.self.invariant.0).values_length

pub returns-clause-few : goal.returns-clause-few
returns-clause-few g c = omega (arith, ap length c.as_slice.ensures.keys, c.self.invariant.1)
