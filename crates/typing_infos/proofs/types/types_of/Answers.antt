use Rattle.std.proofs.Common.{length, map, sym, subst, ◌<◌}
use Rattle.ir_types.specs.judged.ExpressionPlain.{expression_view}
use Rattle.ir_items.specs.found.GlobalView.{values_of}
use Rattle.typing_resolve.specs.View.{context_view}
use Rattle.typing_infos.proofs.TypeLemmas.{Rest, rest_first, rest_end, operands_below, one_more, refused}
use Rattle.typing_infos.proofs.types.types_of.Goals as goal

pub type_at-requires-clause-named : goal.type_at-requires-clause-named
type_at-requires-clause-named c =
    let xs = map expression_view (values_of c.args.expressions.now) in
    let f = rest_first xs (length c.loop-handle.types.items) (c.in-Some.handle, c.in-Some.expression.now) c.next.new.self (subst (Rest xs (length c.loop-handle.types.items)) c.in-Some.ensures.steps c.loop-handle.invariant.1) in
    c.requires.named (length c.loop-handle.types.items) (expression_view c.in-Some.expression.now) f.stands

pub type_at-requires-clause-precede : goal.type_at-requires-clause-precede
type_at-requires-clause-precede c =
    let xs = map expression_view (values_of c.args.expressions.now) in
    let f = rest_first xs (length c.loop-handle.types.items) (c.in-Some.handle, c.in-Some.expression.now) c.next.new.self (subst (Rest xs (length c.loop-handle.types.items)) c.in-Some.ensures.steps c.loop-handle.invariant.1) in
    λ o among. subst (λ z. o < length z) (sym c.deref.ensures.value) (operands_below xs c.requires.precede (length c.loop-handle.types.items) (expression_view c.in-Some.expression.now) f.stands o among)

pub returns-clause-ok : goal.returns-clause-ok
returns-clause-ok c =
    let xs = map expression_view (values_of c.args.expressions.now) in
    record {
      len = rest_end xs (length c.loop-handle.types.items) (subst (Rest xs (length c.loop-handle.types.items)) c.in-None.ensures.steps.0 c.loop-handle.invariant.1);
      each = c.loop-handle.invariant.0;
    }

pub loop-handle-preserved : goal.loop-handle-preserved
loop-handle-preserved c =
    one_more (context_view c.args.context.now) (map expression_view (values_of c.args.expressions.now)) c.loop-handle.types.items c.deref.result.now c.keep.new.types.items c.in-Some.handle c.in-Some.expression.now c.in-Ok.found
    c.loop-handle.handle-iterator c.next.new.self c.loop-handle.invariant c.in-Some.ensures.steps c.deref.ensures.value c.in-Ok-keep.ensures c.in-Ok.ensures

pub returns-in-Err-clause-fault : goal.returns-in-Err-clause-fault
returns-in-Err-clause-fault c =
    refused (context_view c.args.context.now) (map expression_view (values_of c.args.expressions.now)) c.loop-handle.types.items c.deref.result.now c.in-Some.handle c.in-Some.expression.now c.in-Err.refusal
    c.loop-handle.handle-iterator c.next.new.self c.loop-handle.invariant c.in-Some.ensures.steps c.deref.ensures.value c.in-Err.ensures
