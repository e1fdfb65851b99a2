use Rattle.typing_layout.proofs.Capable.{more_capabilities as more}
use Rattle.typing_layout.proofs.flag_laws.more_capabilities.Goals as goal

pub returns : goal.returns
returns c = more
