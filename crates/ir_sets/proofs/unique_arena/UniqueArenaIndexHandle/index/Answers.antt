use Rattle.std.proofs.Common.{ap, ◌∙◌, arith}
use Rattle.ir_arena.specs.found.Arenas.{value_at}
use Rattle.ir_arena.proofs.Zipped.{value_read}
use Rattle.ir_sets.proofs.unique_arena.UniqueArenaIndexHandle.index.Goals as goal

pub returns : goal.returns
returns g c =
    value_read c.values.result.now c.args.self.now c.index.result c.index-values-index.result c.values.ensures.values (omega (arith, c.index.ensures.value, c.requires)) c.index-values-index.is
    ∙ ap (value_at c.args.self.now) c.index.ensures.value
