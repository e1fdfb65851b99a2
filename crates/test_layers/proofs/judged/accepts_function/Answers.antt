use Rattle.std.proofs.Common.{ap, ◌∙◌, sym, option_map, false}
use Rattle.std.proofs.lemmas.Option.{slice_get-map}
use Rattle.shader_ir.specs.Arenas.{value_of_entry}
use Rattle.shader_ir.specs.View.{function_view, module_view, values_of}
use Rattle.test_layers.proofs.judged.accepts_function.Goals as goal

pub validate_function-answer-requires-clause-made : goal.validate_function-answer-requires-clause-made
validate_function-answer-requires-clause-made c =
    let validator = c.new-validator.ensures in
    c.made_for_accepted.ensures _ false (module_view c.args.«module».now) c.in-Ok.info c.new-validator.result.lower c.in-Ok.ensures.accepted c.in-Ok.ensures.told
    (ap (λ v. v.lower.info) validator ∙ c.new-lower.ensures.info) (ap (λ v. v.lower.severities) validator ∙ c.new-lower.ensures.severities)

-- the function is one of the module's, whose handles are in order
pub validate_function-answer-requires-clause-handles : goal.validate_function-answer-requires-clause-handles
validate_function-answer-requires-clause-handles c =
    let entries = c.args.«module».now.functions in
    ((c.order_gives_conditions.ensures (module_view c.args.«module».now) c.in-Ok.ensures.accepted.handles).functions c.args.function _
    (slice_get-map function_view (values_of entries) c.args.function ∙ ap (option_map function_view) (slice_get-map value_of_entry entries c.args.function ∙ sym c.in-Ok-try_get.ensures.value))).in_range

pub validate_function-answer-requires-clause-precede : goal.validate_function-answer-requires-clause-precede
validate_function-answer-requires-clause-precede c =
    let entries = c.args.«module».now.functions in
    ((c.order_gives_conditions.ensures (module_view c.args.«module».now) c.in-Ok.ensures.accepted.handles).functions c.args.function _
    (slice_get-map function_view (values_of entries) c.args.function ∙ ap (option_map function_view) (slice_get-map value_of_entry entries c.args.function ∙ sym c.in-Ok-try_get.ensures.value))).operands

pub validate_function-answer-requires-clause-parents : goal.validate_function-answer-requires-clause-parents
validate_function-answer-requires-clause-parents c = (c.order_gives_conditions.ensures (module_view c.args.«module».now) c.in-Ok.ensures.accepted.handles).filters
