use Rattle.std.proofs.Common.{◌≡◌, ◌<◌, length, sym, ap, ◌∙◌, arith}
use Rattle.ir_blocks.specs.IrTypes.{expression_view}
use Rattle.ir_items.specs.judged.Bases.{itself, through, global_of}
use Rattle.ir_items.proofs.Places.{plain_at}
use Rattle.ir_items.proofs.bases.origin_of.Goals as goal

pub loop-base-smaller : goal.loop-base-smaller
loop-base-smaller c =
    let at = plain_at expression_view c.args.function.now.expressions c.loop-base.current c.index.result.now c.index.ensures in
    c.requires.bases c.loop-base.current c.in-Some.base (expression_view c.index.result.now) at (sym c.base_of.ensures ∙ c.in-Some.is)

pub loop-base-preserved : goal.loop-base-preserved
loop-base-preserved c =
    let at = plain_at expression_view c.args.function.now.expressions c.loop-base.current c.index.result.now c.index.ensures in
    let based = sym c.base_of.ensures ∙ c.in-Some.is in
    let before : c.in-Some.base < c.loop-base.current = c.requires.bases c.loop-base.current c.in-Some.base (expression_view c.index.result.now) at based in
    let within : c.loop-base.current < length c.args.function.now.expressions = c.loop-base.invariant.in_arena in
    record {
      in_arena = omega arith;
      behind = λ origin rest. c.loop-base.invariant.behind origin (rest.0, through at based rest.1, rest.2);
    }

pub returns : goal.returns
returns c =
    let at = plain_at expression_view c.args.function.now.expressions c.loop-base.current c.index.result.now c.index.ensures in
    let again = plain_at expression_view c.args.function.now.expressions c.loop-base.current c.index-2.result.now c.index-2.ensures in
    let same : expression_view c.index-2.result.now ≡ expression_view c.index.result.now = (let x = at in let y = again in cc) in
    c.loop-base.invariant.behind c.global_of.result
    (expression_view c.index.result.now, itself at (sym c.base_of.ensures ∙ c.in_default.is), c.global_of.ensures ∙ ap global_of same)
