-- The uniformities so far, followed by the rest's, are those of all.
use Rattle.std.proofs.Common.{◌≡◌, ◌++◌, map}
use Rattle.ir_arena.specs.judged.Handles.{handles_from}
use Rattle.typing_uniformity.specs.Reported.{told, all_reported}
use Rattle.typing_uniformity.proofs.uniformities.uniformities_of.Given as goal

abbrev pub invariant-loop-handle : goal.invariant-loop-handle
invariant-loop-handle l = (map told l.all.items ++ all_reported l.sources l.handle-iterator) ≡ all_reported l.sources (handles_from 0 l.function.expressions)
