use Rattle.std.proofs.Common.{◌≡◌, []}
use Rattle.ir_arena.specs.judged.Handles.{handles_from}
use Rattle.ir_items.specs.found.View.{function_view, module_view}
use Rattle.typing_uniformity.specs.Facts.{sources_of}
use Rattle.typing_uniformity.proofs.facts.all_sources.Given as goal

abbrev pub invariant-loop-handle : goal.invariant-loop-handle
invariant-loop-handle l =
    sources_of (module_view l.«module») (function_view l.function) l.sources.items l.handle-iterator ≡ sources_of (module_view l.«module») (function_view l.function) [] (handles_from 0 l.function.expressions)
