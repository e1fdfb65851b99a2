use Rattle.std.proofs.Common.{sym, ◌∙◌}
use Rattle.ir_items.specs.found.View.{module_view}
use Rattle.ir_types.specs.judged.Plain.{inner_view}
use Rattle.module_handles.proofs.TypeLemmas.{own_fault_in, looked_fault_in, one_known, all_known, types_long}
use Rattle.module_handles.proofs.types.fault_of_types.Goals as goal

pub returns-in-Some : goal.returns-in-Some
returns-in-Some c =
    own_fault_in (module_view c.args.«module».now) c.loop-index.index (inner_view c.type_at-inner.result.now) c.in-Some.fault c.type_at-inner.ensures (sym c.type_fault.ensures ∙ c.in-Some.is)

pub returns-in-Some-named_between : goal.returns-in-Some-named_between
returns-in-Some-named_between c =
    looked_fault_in (module_view c.args.«module».now) c.loop-index.index c.loop-index.known c.looked_through-end.result (inner_view c.type_at-inner.result.now) c.in-Some-named_between.fault
    c.type_at-inner.ensures c.looked_through-end.ensures c.in-Some-named_between.ensures

pub loop-index-preserved : goal.loop-index-preserved
loop-index-preserved c =
    one_known (module_view c.args.«module».now) c.loop-index.index c.loop-index.known c.looked_through-end.result c.max-known.result (inner_view c.type_at-inner.result.now) c.loop-index.invariant
    c.type_at-inner.ensures (sym c.type_fault.ensures ∙ c.in_default.is) c.looked_through-end.ensures c.in_default-named_between.ensures c.max-known.ensures

pub returns : goal.returns
returns c =
    all_known (module_view c.args.«module».now) c.len-index-end.result c.loop-index.index c.loop-index.known (types_long c.args.«module».now.types ∙ sym c.len-index-end.ensures.value)
    c.loop-index-test.false c.loop-index.invariant
