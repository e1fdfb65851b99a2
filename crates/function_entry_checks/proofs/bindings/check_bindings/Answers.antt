use Rattle.std.proofs.Common.{◌+◌, sym, subst, arith}
use Rattle.function_entry_checks.proofs.UsedLaws.{AreSeenBelow, all_apart, bound_used, kept_at, more_at, seen_to, shared_at, unbound, unused_in}
use Rattle.function_entry_checks.proofs.SeenLaws.{seen_again}
use Rattle.function_entry_checks.specs.Bindings.{IsSeen}
use Rattle.function_entry_checks.specs.Faults.{IsBindingFault}
use Rattle.function_entry_checks.proofs.VariableLemmas.{many_variables}
use Rattle.ir_items.specs.found.View.{module_view}
use Rattle.spec_expressions.specs.judged.Summaries.{HasUseBit}
use Rattle.function_entry_checks.proofs.bindings.check_bindings.Goals.{in-None, in-Some-binding_at+in-Ok-true}
use Rattle.function_entry_checks.proofs.bindings.check_bindings.Goals as goal

pub returns-in-Ok-false : goal.returns-in-Ok-false
returns-in-Ok-false c =
    let m = module_view c.args.«module».now in
    let uses = c.args.uses.now in
    let first = c.in-Some.ensures.some in
    let b = c.in-Some-binding_at.binding in
    let below = seen_to m (HasUseBit uses) c.loop-index.from (IsSeen c.loop-index.seen) c.loop-index.invariant.1 c.in-Some.index first.reached (unused_in uses c.loop-index.from c.in-Some.index first.before) in
    let here = bound_used m uses c.loop-index.from c.len-count.result c.in-Some.index c.at-global.result first c.at-global.ensures b c.binding_at.result c.binding_at.ensures c.in-Some-binding_at.is in
    let again = seen_again c.loop-index.seen b c.in-Ok-false.field-0 c.in-Ok-false.ensures.fresh c.in-Ok-false.field-0-test in
    (subst (IsBindingFault m (HasUseBit uses)) (sym c.new.ensures.error) (shared_at m (HasUseBit uses) c.in-Some.index (IsSeen c.loop-index.seen) below c.at-global.result c.at-global.ensures b here again), c.new.ensures.spans)

pub loop-index-preserved : goal.loop-index-preserved
loop-index-preserved c =
    let m = module_view c.args.«module».now in
    let uses = c.args.uses.now in
    let first = c.in-Some.ensures.some in
    let below = seen_to m (HasUseBit uses) c.loop-index.from (IsSeen c.loop-index.seen) c.loop-index.invariant.1 c.in-Some.index first.reached (unused_in uses c.loop-index.from c.in-Some.index first.before) in (
      omega (arith, first.within),
      elim c.match-binding_at.branch [
        | in-None w ↦ subst (λ s. AreSeenBelow m (HasUseBit uses) (c.in-Some.index + 1) (IsSeen s)) (sym w.seen-is)
            (kept_at m (HasUseBit uses) c.in-Some.index (IsSeen c.loop-index.seen) below c.at-global.result c.at-global.ensures (unbound m (HasUseBit uses) c.at-global.result c.binding_at.result c.binding_at.ensures w.in-None.is))
        | in-Some-binding_at+in-Ok-true w ↦ subst (λ s. AreSeenBelow m (HasUseBit uses) (c.in-Some.index + 1) (IsSeen s)) (sym w.seen-is)
            (more_at m (HasUseBit uses) c.in-Some.index (IsSeen c.loop-index.seen) below c.at-global.result c.at-global.ensures w.in-Some-binding_at.binding
            (bound_used m uses c.loop-index.from c.len-count.result c.in-Some.index c.at-global.result first c.at-global.ensures w.in-Some-binding_at.binding c.binding_at.result c.binding_at.ensures w.in-Some-binding_at.is)
            (λ s. w.in-Ok-true.ensures.fresh.0 w.in-Ok-true.field-0-test s) (IsSeen w.note_binding.new.seen) w.in-Ok-true.ensures.noted)
      ],
    )

pub returns : goal.returns
returns c =
    let m = module_view c.args.«module».now in
    let uses = c.args.uses.now in
    all_apart m (HasUseBit uses) c.len-count.result (IsSeen c.loop-index.seen) (omega (arith, many_variables c.args.«module».now.global_variables, c.len-count.ensures.value))
    (seen_to m (HasUseBit uses) c.loop-index.from (IsSeen c.loop-index.seen) c.loop-index.invariant.1 c.len-count.result c.loop-index.invariant.0 (unused_in uses c.loop-index.from c.len-count.result c.in_default.ensures.none))

pub first_used-requires : goal.first_used-requires
first_used-requires c = omega (arith, many_variables c.args.«module».now.global_variables, c.len-count.ensures.value, c.requires)
