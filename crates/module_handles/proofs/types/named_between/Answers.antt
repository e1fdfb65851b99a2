use Rattle.std.proofs.Common.{sym, ◌∙◌, arith}
use Rattle.ir_types.specs.judged.ExpressionPlain.{expression_view}
use Rattle.ir_items.specs.found.View.{module_view}
use Rattle.module_handles.proofs.TypeLemmas.{between_more, between_all, expressions_long}
use Rattle.module_handles.proofs.Viewed.{entry_at}
use Rattle.module_handles.proofs.types.named_between.Goals as goal

pub returns-in-Some : goal.returns-in-Some
returns-in-Some c = record {
  e = c.loop-place.place;
  x = expression_view c.index-expression.result.now;
  behind = c.loop-place.auto.place;
  before = (let below = c.loop-place-test.true in let stop = c.min-end.ensures in omega (arith, below, stop));
  at = entry_at expression_view c.args.«module».now.global_expressions c.loop-place.place c.at.result c.index-expression.result.now c.at.ensures c.index-expression.ensures;
  found = sym c.named_forward.ensures ∙ c.in-Some.is;
}

pub loop-place-preserved : goal.loop-place-preserved
loop-place-preserved c =
    between_more (module_view c.args.«module».now) c.args.index c.args.from c.loop-place.place (expression_view c.index-expression.result.now) c.loop-place.invariant
    (entry_at expression_view c.args.«module».now.global_expressions c.loop-place.place c.at.result c.index-expression.result.now c.at.ensures c.index-expression.ensures)
    (sym c.named_forward.ensures ∙ c.in_default.is)

pub returns : goal.returns
returns c =
    between_all (module_view c.args.«module».now) c.args.index c.args.from c.loop-place.place c.args.end c.min-end.result c.len.result
    (expressions_long c.args.«module».now.global_expressions ∙ sym c.len.ensures.value) c.min-end.ensures c.loop-place-test.false c.loop-place.invariant
