use Rattle.std.proofs.Common.{refl, ap, length, arith}
use Rattle.function_interface.proofs.Below.{one_more, all_below, viewed_at, as_many_viewed}
use Rattle.ir_items.specs.found.View.{argument_view}
use Rattle.spec_statements.specs.judged.Interfaces.{ArgumentOK}
use Rattle.function_statement_checks.specs.View.{context_view}
use Rattle.function_interface.proofs.arguments.check_arguments.Goals as goal

pub returns-in-Err : goal.returns-in-Err
returns-in-Err c = c.refused_argument.ensures (context_view c.args.context.now) c.args.entry (record {
  item = argument_view c.index-arguments-index.result;
  at = viewed_at argument_view c.args.context.now.function.now.arguments.items c.as_slice-arguments.result.now c.loop-index.index c.index-arguments-index.result c.as_slice-arguments.ensures.value (omega (arith, c.loop-index-test.true)) c.index-arguments-index.is;
  before = c.loop-index.invariant;
  wrong = (refl, c.in-Err.ensures);
})

pub loop-index-preserved : goal.loop-index-preserved
loop-index-preserved c =
    one_more (ArgumentOK (context_view c.args.context.now).m c.args.entry) (context_view c.args.context.now).f.arguments c.loop-index.index (argument_view c.index-arguments-index.result) c.loop-index.invariant
    (viewed_at argument_view c.args.context.now.function.now.arguments.items c.as_slice-arguments.result.now c.loop-index.index c.index-arguments-index.result c.as_slice-arguments.ensures.value (omega (arith, c.loop-index-test.true)) c.index-arguments-index.is)
    c.in_default.ensures

pub returns : goal.returns
returns c =
    all_below (ArgumentOK (context_view c.args.context.now).m c.args.entry) (context_view c.args.context.now).f.arguments c.loop-index.index
    (as_many_viewed argument_view c.args.context.now.function.now.arguments.items c.loop-index.index (omega (arith, ap length c.as_slice-arguments.ensures.value, c.loop-index-test.false))) c.loop-index.invariant
