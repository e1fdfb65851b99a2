use Rattle.std.proofs.Common.{◌∙◌}
use Rattle.ir_flags.proofs.SetLaws.{all_validation_flags}
use Rattle.test_kinds.proofs.uses.every_check.Goals as goal

pub returns : goal.returns
returns c = c.all.ensures tt ∙ all_validation_flags
