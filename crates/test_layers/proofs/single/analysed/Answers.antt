use Rattle.std.proofs.Common.{ap, ◌∙◌, sym, option_map, false}
use Rattle.std.proofs.lemmas.Option.{slice_get-map}
use Rattle.shader_ir.specs.Arenas.{value_of_entry}
use Rattle.shader_ir.specs.View.{function_view, module_view, values_of}
use Rattle.test_layers.proofs.single.analysed.Goals as goal

pub analyse-requires-clause-made : goal.analyse-requires-clause-made
analyse-requires-clause-made c =
    c.made_for_accepted.ensures _ false (module_view c.args.«module».now) c.in-Ok.info c.new-lower.result c.in-Ok.ensures.accepted c.in-Ok.ensures.told c.new-lower.ensures.info c.new-lower.ensures.severities

-- the function is one of the module's, whose handles are in order
pub analyse-requires-clause-handles : goal.analyse-requires-clause-handles
analyse-requires-clause-handles c =
    let entries = c.args.«module».now.functions in
    ((c.order_gives_conditions.ensures (module_view c.args.«module».now) c.in-Ok.ensures.accepted.handles).functions c.args.function _
    (slice_get-map function_view (values_of entries) c.args.function ∙ ap (option_map function_view) (slice_get-map value_of_entry entries c.args.function ∙ sym c.in-Ok-try_get.ensures.value))).in_range

pub analyse-requires-clause-precede : goal.analyse-requires-clause-precede
analyse-requires-clause-precede c =
    let entries = c.args.«module».now.functions in
    ((c.order_gives_conditions.ensures (module_view c.args.«module».now) c.in-Ok.ensures.accepted.handles).functions c.args.function _
    (slice_get-map function_view (values_of entries) c.args.function ∙ ap (option_map function_view) (slice_get-map value_of_entry entries c.args.function ∙ sym c.in-Ok-try_get.ensures.value))).operands
