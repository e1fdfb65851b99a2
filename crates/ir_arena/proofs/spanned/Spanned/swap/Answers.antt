use Rattle.std.proofs.Common.{arith}
use Rattle.ir_arena.proofs.Zipped.{opened, swapped}
use Rattle.ir_arena.proofs.spanned.Spanned.swap.Goals as goal

pub swap-requires-clause-i_in_bounds : goal.swap-requires-clause-i_in_bounds
swap-requires-clause-i_in_bounds g c = omega (arith, (opened _ _ _ c.self.view_is c.self.invariant).values_length, c.self.inside.values.ok.0, c.requires.left)

pub swap-requires-clause-j_in_bounds : goal.swap-requires-clause-j_in_bounds
swap-requires-clause-j_in_bounds g c = omega (arith, (opened _ _ _ c.self.view_is c.self.invariant).values_length, c.self.inside.values.ok.0, c.requires.right)

pub swap-requires-2-clause-i_in_bounds : goal.swap-requires-2-clause-i_in_bounds
swap-requires-2-clause-i_in_bounds g c = omega (arith, (opened _ _ _ c.self.view_is c.self.invariant).spans_length, c.self.inside.spans.ok.0, c.requires.left)

pub swap-requires-2-clause-j_in_bounds : goal.swap-requires-2-clause-j_in_bounds
swap-requires-2-clause-j_in_bounds g c = omega (arith, (opened _ _ _ c.self.view_is c.self.invariant).spans_length, c.self.inside.spans.ok.0, c.requires.right)

pub returns : goal.returns
returns g c =
    swapped _ _ _ _ _ c.args.left c.args.right c.self.view_is c.self.invariant c.requires.left c.requires.right c.swap.ensures.items c.swap-2.ensures.items
