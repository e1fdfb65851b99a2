use Rattle.std.proofs.Common.{length, ◌∙◌}
use Rattle.ir_arena.proofs.Zipped.{opened, position_map}
use Rattle.ir_sets.proofs.Distinct.{within_both, found_present, found_absent}
use Rattle.ir_sets.proofs.unique_arena.UniqueArena.find.Goals as goal

pub returns-clause-value : goal.returns-clause-value
returns-clause-value g c =
    c.get_index_of.ensures.index ∙ position_map (g.T.PartialEq.eq c.args.value.now) _ _ (opened _ _ _ c.self.view_is c.self.invariant.0).values_are

pub returns-clause-in_range : goal.returns-clause-in_range
returns-clause-in_range g c =
    let held = c.self.inside in
    within_both c.get_index_of.result (length held.values.keys) (length c.args.self.now) (opened _ _ _ c.self.view_is c.self.invariant.0).values_length c.self.invariant.1 c.get_index_of.ensures.within

pub returns-clause-present : goal.returns-clause-present
returns-clause-present g c =
    found_present g.T.PartialEq.eq c.args.self.now c.args.value.now c.get_index_of.result
    (c.get_index_of.ensures.index ∙ position_map (g.T.PartialEq.eq c.args.value.now) _ _ (opened _ _ _ c.self.view_is c.self.invariant.0).values_are)

pub returns-clause-absent : goal.returns-clause-absent
returns-clause-absent g c =
    found_absent g.T.PartialEq.eq c.args.self.now c.args.value.now c.get_index_of.result
    (c.get_index_of.ensures.index ∙ position_map (g.T.PartialEq.eq c.args.value.now) _ _ (opened _ _ _ c.self.view_is c.self.invariant.0).values_are)
