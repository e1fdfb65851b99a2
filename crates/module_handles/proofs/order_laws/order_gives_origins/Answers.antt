use Rattle.module_handles.proofs.Origins as order
use Rattle.module_handles.proofs.order_laws.order_gives_origins.Goals as goal

pub returns : goal.returns
returns c = order.order_gives_origins
