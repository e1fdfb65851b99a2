use Rattle.std.proofs.Common.{refl, arith, rules}
use Rattle.ir_items.specs.found.View.{module_view}
use Rattle.ir_types.specs.judged.Plain.{type_view}
use Rattle.module_constants.proofs.Reported.{many_viewed}
use Rattle.typing_handles.proofs.Ordered.{order_gives_conditions}
use Rattle.module_steps.proofs.Refusals.{by_told}
use Rattle.module_steps.proofs.StepLemmas.{laid}
use Rattle.judgement.proofs.Reached.{reach}
use Rattle.judgement.specs.judged.ModuleSteps as step
use Rattle.module_steps.proofs.steps.lay_out.Goals as goal

pub update-requires-clause-back : goal.update-requires-clause-back
update-requires-clause-back c = (order_gives_conditions (module_view c.args.module.now) c.requires.reached.handles).types

pub refused-requires : goal.refused-requires
refused-requires c =
    by_told c.args.settings c.args.overrides_resolved (module_view c.args.module.now) _ c.in-Err-Fault.field-0 c.in-Err-Fault.fault c.into_inner.result (search rules) c.into_inner.ensures c.requires.reached c.in-Err-Fault.ensures.held
    c.in-Err-Fault.ensures.refused

pub returns-in-Ok-clause-reached : goal.returns-in-Ok-clause-reached
returns-in-Ok-clause-reached c =
    let many = many_viewed type_view c.args.module.now.types in
    reach c.args.settings c.args.overrides_resolved (module_view c.args.module.now) step.layout step.type refl c.requires.reached
    (laid c.args.settings c.args.overrides_resolved (module_view c.args.module.now) _ c.in-Ok.ensures.held (omega (arith, c.in-Ok.ensures.all, many)))
