-- The result of validating the module that was read.
use Rattle.check_wgsl.proofs.Soundness.{checked}
use Rattle.check_wgsl.proofs.judged.judge_read.Goals as goal

pub returns-in-Ok : goal.returns-in-Ok
returns-in-Ok c = record { document = _; checked = checked _ c.requires; is = c.in-Ok.ensures.judged }
