use Rattle.std.proofs.Common.{arith}
use Rattle.ir_arena.proofs.Zipped.{opened, value_read}
use Rattle.ir_arena.proofs.spanned.Spanned.value.Goals as goal

pub index-requires : goal.index-requires
index-requires g c = omega (arith, (opened _ _ _ c.self.view_is c.self.invariant).values_length, c.self.inside.values.ok.0, c.requires)

pub returns : goal.returns
returns g c = value_read _ _ c.args.place c.index.result.now (opened _ _ _ c.self.view_is c.self.invariant).values_are c.requires c.index.ensures
