use Rattle.std.proofs.Common.{◌≡◌}
use Rattle.ir_arena.specs.judged.Handles.{handles_from}
use Rattle.typing_summaries.specs.Tallies.{known, tallied, expressions_done_with}
use Rattle.typing_summaries.proofs.tally.Tally.add_with_handles.Given as goal

abbrev pub invariant-loop-handle : goal.invariant-loop-handle
invariant-loop-handle l =
    expressions_done_with (known l.context) l.handle-iterator (tallied l.self) ≡ expressions_done_with (known l.context) (handles_from 0 l.context.expressions.now) (tallied l.fn.self)
