use Rattle.std.proofs.Common.{ap, ◌∙◌}
use Rattle.std.specs.List.{enumerate_from}
use Rattle.ir_arena.proofs.Zipped.{handles_numbered}
use Rattle.ir_sets.proofs.unique_arena.UniqueArena.iter.Goals as goal

pub returns : goal.returns
returns g c = c.new.ensures ∙ (ap (enumerate_from 0) c.values.ensures.values ∙ handles_numbered 0 c.args.self.now)
