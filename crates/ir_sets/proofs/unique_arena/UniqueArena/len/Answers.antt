use Rattle.std.proofs.Common.{◌∙◌, arith, subst}
use Rattle.ir_arena.specs.found.Arenas.{IsDistinctBy}
use Rattle.ir_arena.proofs.Zipped.{opened}
use Rattle.ir_sets.proofs.Distinct.{distinct_entries}
use Rattle.ir_sets.proofs.unique_arena.UniqueArena.len.Goals as goal

pub returns-clause-value : goal.returns-clause-value
returns-clause-value g c =
    c.len.ensures.len ∙ (opened _ _ _ c.self.view_is c.self.invariant.0).values_length

pub returns-clause-in_range : goal.returns-clause-in_range
returns-clause-in_range g c = omega (arith, (opened _ _ _ c.self.view_is c.self.invariant.0).values_length, c.self.invariant.1)

pub returns-clause-distinct : goal.returns-clause-distinct
returns-clause-distinct g c =
    let held = c.self.inside in
    subst (IsDistinctBy g.T.PartialEq.eq) c.self.view_is (distinct_entries g.T.PartialEq.eq held.values.keys held.spans.items c.len.ensures.unique)
