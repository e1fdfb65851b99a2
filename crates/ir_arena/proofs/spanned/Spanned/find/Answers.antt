use Rattle.std.proofs.Common.{◌<◌, length, subst, ap, ◌∙◌}
use Rattle.std.specs.Prelude.{IfSome}
use Rattle.ir_arena.proofs.Zipped.{opened, position_map}
use Rattle.ir_arena.proofs.spanned.Spanned.find.Goals as goal

pub returns-clause-value : goal.returns-clause-value
returns-clause-value g c =
    c.first_equal.ensures.value ∙ position_map (g.T.PartialEq.eq c.args.value.now) _ _ (c.as_slice.ensures.value ∙ (opened _ _ _ c.self.view_is c.self.invariant).values_are)

pub returns-clause-in_range : goal.returns-clause-in_range
returns-clause-in_range g c =
    subst (λ n. IfSome c.first_equal.result (λ place. place < n)) (ap length c.as_slice.ensures.value ∙ (opened _ _ _ c.self.view_is c.self.invariant).values_length) c.first_equal.ensures.in_range
