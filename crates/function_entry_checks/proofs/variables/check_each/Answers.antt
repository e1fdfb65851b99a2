use Rattle.std.proofs.Common.{◌≡◌, sym, subst, arith}
use Rattle.std.specs.Int.{bit_at}
use Rattle.spec_expressions.specs.declared.global_use.GlobalUse.{GlobalUse}
use Rattle.spec_interface.proofs.Places.{found}
use Rattle.function_entry_checks.proofs.UsedLaws.{all_each, each_at, each_to, first_used, unused_in, use_is}
use Rattle.function_entry_checks.specs.Faults.{IsVariableFault}
use Rattle.function_entry_checks.proofs.VariableLemmas.{many_variables}
use Rattle.ir_items.specs.found.GlobalView.{global_view}
use Rattle.ir_items.specs.found.View.{entry_view, module_view}
use Rattle.spec_expressions.specs.judged.Summaries.{HasUseBit}
use Rattle.spec_interface.specs.judged.UsedVariables.{IsUsed, UsedVariableOK}
use Rattle.function_entry_checks.proofs.variables.check_each.Goals as goal

pub returns-in-Err : goal.returns-in-Err
returns-in-Err c =
    let m = module_view c.args.«module».now in
    let e = entry_view c.args.entry.now in
    let uses = c.args.uses.now in
    let v = global_view c.index-variable.result.now in
    record {
      handle = c.at-global.result;
      variable = v;
      at = found global_view c.args.«module».now.global_variables c.at-global.result c.index-variable.result.now c.index-variable.ensures;
      used = subst (IsUsed (HasUseBit uses)) (sym c.at-global.ensures) (first_used uses c.loop-index.from c.len-count.result c.in-Some.index c.in-Some.ensures.some);
      fault = subst (λ (u : GlobalUse). IsVariableFault m e c.at-global.result v (λ k. bit_at u.0 k ≡ 1) c.in-Err.error) (use_is uses c.at-global.result c.use_at.result c.use_at.ensures) c.in-Err.ensures;
    }

pub loop-index-preserved : goal.loop-index-preserved
loop-index-preserved c =
    let m = module_view c.args.«module».now in
    let e = entry_view c.args.entry.now in
    let uses = c.args.uses.now in
    let v = global_view c.index-variable.result.now in
    let below = each_to m e (HasUseBit uses) c.loop-index.from c.loop-index.invariant c.in-Some.index (unused_in uses c.loop-index.from c.in-Some.index c.in-Some.ensures.some.before) in
    each_at m e (HasUseBit uses) c.in-Some.index below c.at-global.result v c.at-global.ensures
    (found global_view c.args.«module».now.global_variables c.at-global.result c.index-variable.result.now c.index-variable.ensures)
    (subst (λ (u : GlobalUse). UsedVariableOK m e c.at-global.result v (λ k. bit_at u.0 k ≡ 1)) (use_is uses c.at-global.result c.use_at.result c.use_at.ensures) c.in-Ok.ensures)

pub returns : goal.returns
returns c =
    let m = module_view c.args.«module».now in
    let e = entry_view c.args.entry.now in
    let uses = c.args.uses.now in
    all_each m e (HasUseBit uses) c.len-count.result (omega (arith, many_variables c.args.«module».now.global_variables, c.len-count.ensures.value))
    (each_to m e (HasUseBit uses) c.loop-index.from c.loop-index.invariant c.len-count.result (unused_in uses c.loop-index.from c.len-count.result c.in_default.ensures.none))

pub first_used-requires : goal.first_used-requires
first_used-requires c = omega (arith, many_variables c.args.«module».now.global_variables, c.len-count.ensures.value, c.requires)
