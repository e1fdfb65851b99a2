use Rattle.std.proofs.Common.{◌≡◌}
use Rattle.ir_arena.specs.judged.Handles.{handles_from}
use Rattle.typing_summaries.specs.Tallies.{name_all_with}
use Rattle.typing_summaries.proofs.counts.Counts.name_with_handles.Given as goal

abbrev pub invariant-loop-expression : goal.invariant-loop-expression
invariant-loop-expression l = (name_all_with l.expression-iterator l.self.uses.items ≡ name_all_with (handles_from 0 l.expressions) l.fn.self.uses.items) × (l.self.counts ≡ l.fn.self.counts)
