use Rattle.std.proofs.Common.{◌≡◌, Some, slice_get, refl, sym, subst, arith}
use Rattle.module_context.proofs.Lookups.{found, many_viewed}
use Rattle.function_interface.proofs.Below.{one_more, all_below}
use Rattle.function_interface.specs.Items.{EachBelow}
use Rattle.ir_items.specs.found.View.{local_view}
use Rattle.spec_statements.specs.judged.Interfaces.{LocalOK}
use Rattle.function_statement_checks.specs.View.{context_view}
use Rattle.function_interface.proofs.locals.check_locals.Goals as goal

pub returns-in-Err : goal.returns-in-Err
returns-in-Err c = c.refused_local.ensures (context_view c.args.context.now) (record {
  item = local_view c.index-local.result.now;
  at = found local_view c.args.context.now.function.now.local_variables c.at-handle.result c.index-local.result.now c.index-local.ensures;
  before = subst (EachBelow (LocalOK (context_view c.args.context.now)) (context_view c.args.context.now).f.locals) (sym c.at-handle.ensures) c.loop-index.invariant;
  wrong = (refl, c.in-Err.ensures);
})

pub loop-index-preserved : goal.loop-index-preserved
loop-index-preserved c =
    one_more (LocalOK (context_view c.args.context.now)) (context_view c.args.context.now).f.locals c.loop-index.index (local_view c.index-local.result.now) c.loop-index.invariant
    (subst (λ n. slice_get (context_view c.args.context.now).f.locals n ≡ Some (local_view c.index-local.result.now)) c.at-handle.ensures (found local_view c.args.context.now.function.now.local_variables c.at-handle.result c.index-local.result.now c.index-local.ensures))
    c.in_default.ensures

pub returns : goal.returns
returns c =
    all_below (LocalOK (context_view c.args.context.now)) (context_view c.args.context.now).f.locals c.loop-index.index
    (omega (arith, many_viewed local_view c.args.context.now.function.now.local_variables, c.len-index-end.ensures.value, c.loop-index-test.false)) c.loop-index.invariant
