use Rattle.std.proofs.Common.{sym, subst, ◌∙◌}
use Rattle.ir_items.specs.found.View.{function_view, module_view}
use Rattle.judgement_laws.proofs.Sound.{functions_bound_depth}
use Rattle.judgement_laws.specs.judged.Sound.{BoundsDepth}
use Rattle.function_modules.proofs.Placed.{many_values}
use Rattle.function_modules.proofs.laws.entry_depth_bound.Goals as goal

pub returns-clause-value : goal.returns-clause-value
returns-clause-value c = c.len.ensures.value ∙ sym (many_values function_view c.args.module.now.functions)

pub returns-clause-bound : goal.returns-clause-bound
returns-clause-bound c =
    subst (BoundsDepth (module_view c.args.module.now)) (sym (c.len.ensures.value ∙ sym (many_values function_view c.args.module.now.functions))) (functions_bound_depth (module_view c.args.module.now))
