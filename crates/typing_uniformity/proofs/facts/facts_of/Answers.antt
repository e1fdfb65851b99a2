use Rattle.std.proofs.Common.{◌≡◌, map, refl, sym, subst}
use Rattle.ir_arena.specs.judged.Handles.{handles_from}
use Rattle.ir_items.specs.found.View.{function_view, module_view}
use Rattle.spec_expressions.specs.judged.Values.{AreStarts}
use Rattle.typing_uniformity.specs.Facts.{AreSources}
use Rattle.typing_uniformity.specs.Reported.{told, all_reported}
use Rattle.typing_uniformity.proofs.FactLemmas.{are_sources, are_starts}
use Rattle.typing_uniformity.proofs.ToldLemmas.{are_uniformities}
use Rattle.typing_uniformity.proofs.facts.facts_of.Goals as goal

pub returns-clause-uniformities : goal.returns-clause-uniformities
returns-clause-uniformities c =
    let m = module_view c.args.«module».now in
    let f = function_view c.args.function.now in
    let sources = subst (AreSources m f) (sym c.in_ok-sources.ensures) (are_sources m f c.args.function.now.expressions refl c.requires) in
    are_uniformities m f c.in_ok-sources.sources.items sources c.args.function.now.expressions c.in_ok-uniformities.uniformities.items refl
    (subst (λ s. map told c.in_ok-uniformities.uniformities.items ≡ all_reported s (handles_from 0 c.args.function.now.expressions)) c.deref.ensures.value c.in_ok-uniformities.ensures)

pub returns-clause-starts : goal.returns-clause-starts
returns-clause-starts c =
    subst (AreStarts (function_view c.args.function.now).expressions) (sym c.in_ok-globals.ensures) (are_starts c.args.function.now.expressions c.requires)
