use Rattle.std.proofs.Common.{◌+◌, true≢false, sym, subst, ◌∙◌, arith}
use Rattle.function_entry_checks.proofs.UsedLaws.{IsFoundBelow, found_first, found_none, found_to, immediate_used, one_found, two_found, unused_in}
use Rattle.function_entry_checks.proofs.VariableLemmas.{many_variables}
use Rattle.ir_items.specs.found.View.{module_view}
use Rattle.spec_expressions.specs.judged.Summaries.{HasUseBit}
use Rattle.function_entry_checks.proofs.variables.check_immediates.Goals.{then-is_immediate_at+in-None, else-is_immediate_at}
use Rattle.function_entry_checks.proofs.variables.check_immediates.Goals as goal

pub returns-in-Some-found : goal.returns-in-Some-found
returns-in-Some-found c =
    let m = module_view c.args.«module».now in
    let uses = c.args.uses.now in
    let first = c.in-Some.ensures.some in
    two_found m (HasUseBit uses) c.in-Some.index c.loop-index.found
    (found_to m (HasUseBit uses) c.loop-index.from c.loop-index.found c.loop-index.invariant.1 c.in-Some.index first.reached (unused_in uses c.loop-index.from c.in-Some.index first.before))
    c.in-Some-found.field-0 c.at-global.result c.in-Some-found.is c.at-global.ensures
    (immediate_used m uses c.loop-index.from c.len-count.result c.in-Some.index c.at-global.result first c.at-global.ensures (c.is_immediate_at.ensures.0 c.if-is_immediate_at.true))

pub loop-index-preserved : goal.loop-index-preserved
loop-index-preserved c =
    let m = module_view c.args.«module».now in
    let uses = c.args.uses.now in
    let first = c.in-Some.ensures.some in
    let below = found_to m (HasUseBit uses) c.loop-index.from c.loop-index.found c.loop-index.invariant.1 c.in-Some.index first.reached (unused_in uses c.loop-index.from c.in-Some.index first.before) in (
      omega (arith, first.within),
      elim c.if-is_immediate_at.branch [
        | then-is_immediate_at+in-None w ↦ subst (IsFoundBelow m (HasUseBit uses) (c.in-Some.index + 1)) (sym w.found-is)
            (found_first m (HasUseBit uses) c.in-Some.index c.loop-index.found below c.at-global.result c.at-global.ensures w.in-None.is
            (immediate_used m uses c.loop-index.from c.len-count.result c.in-Some.index c.at-global.result first c.at-global.ensures (c.is_immediate_at.ensures.0 w.if-is_immediate_at.true)))
        | else-is_immediate_at w ↦ subst (IsFoundBelow m (HasUseBit uses) (c.in-Some.index + 1)) (sym w.found-is)
            (found_none m (HasUseBit uses) c.in-Some.index c.loop-index.found below c.at-global.result c.at-global.ensures (λ is. true≢false (sym (c.is_immediate_at.ensures.1 is.1) ∙ w.if-is_immediate_at.false)))
      ],
    )

pub returns : goal.returns
returns c =
    let m = module_view c.args.«module».now in
    let uses = c.args.uses.now in
    one_found m (HasUseBit uses) c.len-count.result c.loop-index.found (omega (arith, many_variables c.args.«module».now.global_variables, c.len-count.ensures.value))
    (found_to m (HasUseBit uses) c.loop-index.from c.loop-index.found c.loop-index.invariant.1 c.len-count.result c.loop-index.invariant.0 (unused_in uses c.loop-index.from c.len-count.result c.in_default.ensures.none))

pub first_used-requires : goal.first_used-requires
first_used-requires c = omega (arith, many_variables c.args.«module».now.global_variables, c.len-count.ensures.value, c.requires)
