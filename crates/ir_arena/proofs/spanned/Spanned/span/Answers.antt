use Rattle.std.proofs.Common.{arith}
use Rattle.ir_arena.proofs.Zipped.{opened, span_read, span_past}
use Rattle.ir_arena.proofs.spanned.Spanned.span.Goals as goal

pub returns-then-place-len : goal.returns-then-place-len
returns-then-place-len g c =
    let o = opened _ _ _ c.self.view_is c.self.invariant in
    span_read c.self.inside.spans.items c.args.self.now c.args.place c.index.result.now o.spans_are (omega (arith, o.spans_length, c.self.inside.spans.ok.0, c.len.ensures, c.if-place-len.true)) c.index.ensures

pub returns : goal.returns
returns g c =
    let o = opened _ _ _ c.self.view_is c.self.invariant in
    span_past c.args.self.now c.args.place (omega (arith, o.spans_length, c.self.inside.spans.ok.0, c.len.ensures, c.if-place-len.false))
