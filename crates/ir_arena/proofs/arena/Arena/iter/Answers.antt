use Rattle.std.proofs.Common.{ap, ◌∙◌}
use Rattle.std.specs.List.{enumerate_from}
use Rattle.ir_arena.specs.judged.Handles.{handles_from}
use Rattle.ir_arena.proofs.Zipped.{handles_numbered}
use Rattle.ir_arena.proofs.arena.Arena.iter.Goals as goal

pub returns : goal.returns
returns g c = c.new.ensures ∙ (ap (enumerate_from 0) c.values.ensures ∙ (handles_numbered 0 c.self.inside.entries ∙ ap (handles_from 0) c.self.view_is))
