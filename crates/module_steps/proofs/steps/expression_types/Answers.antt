use Rattle.std.proofs.Common.{refl}
use Rattle.ir_items.specs.found.View.{module_view}
use Rattle.module_handles.proofs.OrderedExpressions.{order_gives_expressions}
use Rattle.module_steps.proofs.StepLemmas.{typed}
use Rattle.judgement.proofs.Reached.{reach}
use Rattle.judgement.specs.judged.ModuleSteps as step
use Rattle.module_steps.proofs.steps.expression_types.Goals as goal

pub const_expression_types-requires-clause-precede : goal.const_expression_types-requires-clause-precede
const_expression_types-requires-clause-precede c = (order_gives_expressions (module_view c.args.module.now) c.requires.reached.handles).globals.operands

pub const_expression_types-requires-clause-named : goal.const_expression_types-requires-clause-named
const_expression_types-requires-clause-named c = (order_gives_expressions (module_view c.args.module.now) c.requires.reached.handles).globals.items

pub returns-in-Ok-clause-reached : goal.returns-in-Ok-clause-reached
returns-in-Ok-clause-reached c =
    reach c.args.settings c.args.overrides_resolved (module_view c.args.module.now) step.typing step.expression refl c.requires.reached (typed c.args.settings c.args.overrides_resolved (module_view c.args.module.now) _ c.in-Ok.ensures.ok)
