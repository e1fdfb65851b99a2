use Rattle.std.proofs.Common.{ap, ◌∙◌, arith}
use Rattle.ir_arena.specs.found.Arenas.{value_at}
use Rattle.ir_arena.proofs.Zipped.{value_read}
use Rattle.ir_sets.proofs.unique_arena.UniqueArena.get_handle.Goals as goal

pub returns-clause-value : goal.returns-clause-value
returns-clause-value g c =
    value_read c.values.result.now c.args.self.now c.index-index.result c.index-values-index.result c.values.ensures.values (omega (arith, c.len.ensures.value, c.if-index-len.false)) c.index-values-index.is
    ∙ ap (value_at c.args.self.now) c.index-index.ensures.value
