use Rattle.std.proofs.Common.{refl}
use Rattle.ir_items.specs.found.View.{function_view}
use Rattle.function_body_checks.proofs.Tables.{reported_known}
use Rattle.function_body_checks.proofs.bringing.bring_one.Goals as goal

pub returns-then-is_known : goal.returns-then-is_known
returns-then-is_known c = (refl, reported_known (function_view c.args.function.now) c.args.scope.now c.args.handle c.is_known.result c.is_known.ensures c.if-is_known.true)
