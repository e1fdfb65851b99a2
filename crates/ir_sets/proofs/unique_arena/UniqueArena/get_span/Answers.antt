use Rattle.std.proofs.Common.{ap, ◌∙◌, arith}
use Rattle.ir_arena.specs.found.Arenas.{span_at}
use Rattle.ir_arena.proofs.CopyLemmas.{read_again}
use Rattle.ir_arena.proofs.Zipped.{span_read, span_past}
use Rattle.ir_sets.proofs.unique_arena.UniqueArena.get_span.Goals as goal

pub returns-then-place-len : goal.returns-then-place-len
returns-then-place-len g c =
    span_read c.spans.result.now c.args.self.now c.index-place.result _ c.spans.ensures.spans (omega (arith, c.len.ensures.value, c.if-place-len.true)) (read_again c.spans.result.now c.index-place.result _ _ (omega (arith, c.spans.ensures.len, c.len.ensures.value, c.if-place-len.true)))
    ∙ ap (span_at c.args.self.now) c.index-place.ensures.value

pub returns : goal.returns
returns g c = span_past c.args.self.now c.args.handle (omega (arith, c.len.ensures.value, c.index-place.ensures.value, c.if-place-len.false))
