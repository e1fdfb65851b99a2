use Rattle.typing_layout.proofs.Held.{layouts_stay as stay}
use Rattle.typing_layout.proofs.laws.layouts_stay.Goals as goal

pub returns : goal.returns
returns c = stay
