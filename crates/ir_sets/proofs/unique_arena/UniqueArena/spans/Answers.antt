use Rattle.std.proofs.Common.{length, ap, ◌∙◌}
use Rattle.ir_arena.proofs.Zipped.{opened}
use Rattle.ir_sets.proofs.unique_arena.UniqueArena.spans.Goals as goal

pub returns-clause-spans : goal.returns-clause-spans
returns-clause-spans g c = c.as_slice.ensures.value ∙ (opened _ _ _ c.self.view_is c.self.invariant.0).spans_are

pub returns-clause-len : goal.returns-clause-len
returns-clause-len g c = ap length c.as_slice.ensures.value ∙ (opened _ _ _ c.self.view_is c.self.invariant.0).spans_length
