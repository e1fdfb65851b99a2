use Rattle.std.proofs.Common.{◌≡◌, []}
use Rattle.ir_arena.specs.judged.Handles.{handles_from}
use Rattle.typing_uniformity.specs.Facts.{starts_of}
use Rattle.typing_uniformity.proofs.facts.all_starts.Given as goal

abbrev pub invariant-loop-expression : goal.invariant-loop-expression
invariant-loop-expression l = starts_of l.globals.items l.expression-iterator ≡ starts_of [] (handles_from 0 l.function.expressions)
