use Rattle.std.proofs.Common.{◌≡◌, sym, ◌∙◌, subst, arith}
use Rattle.ir_items.specs.found.GlobalView.{global_view}
use Rattle.ir_items.specs.found.View.{module_view}
use Rattle.module_globals.specs.Sizes.{AreGreatest}
use Rattle.module_globals.proofs.SizeLemmas.{variable_at, many_variables, greatest_more, greatest_none}
use Rattle.module_globals.proofs.slots.ImmediateSlots.size_for_module.Goals as goal

pub loop-place-init : goal.loop-place-init
loop-place-init c = greatest_none (module_view c.args.module.now)

pub loop-place-preserved : goal.loop-place-preserved
loop-place-preserved c =
    let at = variable_at c.args.module.now.global_variables c.loop-place.place c.index-variable.result.now (rw c.at.ensures at c.index-variable.ensures) in
    greatest_more (module_view c.args.module.now) c.loop-place.place c.loop-place.greatest _ (global_view c.index-variable.result.now) at c.loop-place.invariant
    c.with_variable-greatest.ensures.not_below c.with_variable-greatest.ensures.own c.with_variable-greatest.ensures.is

pub returns : goal.returns
returns c =
    let all : c.loop-place.place ≡ c.len-place-end.result = omega arith in
    subst (λ n. AreGreatest (module_view c.args.module.now) n c.loop-place.greatest) (all ∙ (c.len-place-end.ensures.value ∙ sym (many_variables c.args.module.now.global_variables))) c.loop-place.invariant
