use Rattle.std.proofs.Common.{rules, ◌≡◌, true, ap, ◌∙◌, arith}
use Rattle.ir_items.specs.found.View.{function_view}
use Rattle.typing_references.proofs.Entries.{none_past}
use Rattle.ir_types.specs.judged.ExpressionPlain.{expression_view}
use Rattle.function_strict_scope.proofs.LiveLemmas.{indexed_more, all_indexed}
use Rattle.function_strict_scope.specs.Live.{operands_at}
use Rattle.function_strict_scope.proofs.pairs.all_operands.Goals as goal

pub loop-place-preserved : goal.loop-place-preserved
loop-place-preserved c =
    let f = function_view c.args.function.now in
    let was = c.loop-place.pairs in
    let now = c.add_operands.new.pairs in
    let whole : c.in_ok-add_operands.field-0 ≡ true = search rules in
    let room : c.deref.result.now ≡ operands_at f c.loop-place.place = c.deref.ensures.value ∙ c.in_ok-list_operands.ensures ∙ ap (operands_at f) c.at.ensures in
    record {
      len = c.in_ok-add_operands.ensures.len;
      indexed = indexed_more f c.loop-place.place was.operands.items was.users.items now.operands.items now.users.items c.deref.result.now c.loop-place.invariant.indexed c.in_ok-add_operands.ensures.kept room
          (c.in_ok-add_operands.ensures.added whole);
    }

pub returns : goal.returns
returns c =
    let entries = c.args.function.now.expressions in
    all_indexed (function_view c.args.function.now) c.loop-place.place c.loop-place.pairs.operands.items c.loop-place.pairs.users.items c.loop-place.invariant.len
    (λ e past. none_past expression_view entries e (omega (arith, c.len-place-end.ensures.value, c.loop-place-test.false, past))) c.loop-place.invariant.indexed
