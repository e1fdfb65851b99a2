use Rattle.std.proofs.Common.{refl}
use Rattle.ir_items.specs.found.View.{module_view}
use Rattle.typing_handles.proofs.Ordered.{order_gives_conditions}
use Rattle.module_steps.proofs.StepLemmas.{told}
use Rattle.judgement.proofs.Reached.{reach}
use Rattle.judgement.specs.judged.ModuleSteps as step
use Rattle.module_steps.proofs.steps.type_infos.Goals as goal

pub validate_types-requires-clause-back : goal.validate_types-requires-clause-back
validate_types-requires-clause-back c = (order_gives_conditions (module_view c.args.module.now) c.requires.reached.handles).types

pub returns-in-Ok-clause-reached : goal.returns-in-Ok-clause-reached
returns-in-Ok-clause-reached c =
    reach c.args.settings c.args.overrides_resolved (module_view c.args.module.now) step.type step.typing refl c.requires.reached (told c.args.settings c.args.overrides_resolved (module_view c.args.module.now) _ c.in-Ok.ensures.accepted)
