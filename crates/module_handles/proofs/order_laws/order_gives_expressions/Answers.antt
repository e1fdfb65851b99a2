use Rattle.module_handles.proofs.OrderedExpressions as order
use Rattle.module_handles.proofs.order_laws.order_gives_expressions.Goals as goal

pub returns : goal.returns
returns c = order.order_gives_expressions
