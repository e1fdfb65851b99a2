use Rattle.typing_handles.proofs.Ordered as order
use Rattle.typing_handles.proofs.laws.order_gives_conditions.Goals as goal

pub returns : goal.returns
returns c = order.order_gives_conditions
