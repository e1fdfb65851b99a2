use Rattle.ir_items.specs.found.View.{module_view}
use Rattle.module_steps.proofs.Refusals.{by_refusal}
use Rattle.module_steps.proofs.steps.untyped.Goals as goal

pub refused-requires : goal.refused-requires
refused-requires c = by_refusal c.args.settings c.args.overrides_resolved (module_view c.args.module.now) c.args.refusal c.in-Ok.error c.requires.reached c.requires.first c.in-Ok.ensures.told
