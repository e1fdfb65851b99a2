use Rattle.function_body_checks.proofs.Lists.{by_holds}
use Rattle.function_body_checks.proofs.operands.is_held.Goals as goal

pub returns : goal.returns
returns c = by_holds c.args.scope.now c.args.handle c.contains.result c.contains.ensures
