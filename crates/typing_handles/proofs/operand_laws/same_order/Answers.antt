use Rattle.typing_handles.proofs.SameLemmas as same
use Rattle.typing_handles.proofs.operand_laws.same_order.Goals as goal

pub returns : goal.returns
returns c = same.same_order
