use Rattle.function_varying_checks.proofs.Located.{located}
use Rattle.function_varying_checks.specs.View.{context_view}
use Rattle.function_varying_checks.proofs.locations.check_location.Goals as goal

pub returns : goal.returns
returns c =
    located (context_view c.args.context.now) c.args.ty c.args.at.now c.in-Ok.element c.in-Ok.ensures c.in-Ok-check_kept.ensures
    (c.in-Ok-check_combination.ensures (context_view c.args.context.now) c.args.ty) (c.in-Ok-check_samples.ensures c.args.ty) c.check_value.result c.check_value.ensures
