use Rattle.std.proofs.Common.{ap, ◌∙◌, sym, option_map, false}
use Rattle.std.proofs.lemmas.Option.{slice_get-map}
use Rattle.shader_ir.specs.Arenas.{value_of_entry}
use Rattle.shader_ir.specs.View.{global_view, module_view, values_of}
use Rattle.test_layers.proofs.judged.accepts_variable.Goals as goal

pub validate_global_var-answer-requires-clause-made : goal.validate_global_var-answer-requires-clause-made
validate_global_var-answer-requires-clause-made c =
    let validator = c.new-validator.ensures in
    c.made_for_accepted.ensures _ false (module_view c.args.«module».now) c.in-Ok.info c.new-validator.result.lower c.in-Ok.ensures.accepted c.in-Ok.ensures.told
    (ap (λ v. v.lower.info) validator ∙ c.new-lower.ensures.info) (ap (λ v. v.lower.severities) validator ∙ c.new-lower.ensures.severities)

-- the variable is one of the module's
pub validate_global_var-answer-requires-clause-part : goal.validate_global_var-answer-requires-clause-part
validate_global_var-answer-requires-clause-part c =
    let entries = c.args.«module».now.global_variables in (
      c.args.global,
      slice_get-map global_view (values_of entries) c.args.global
          ∙ ap (option_map global_view) (slice_get-map value_of_entry entries c.args.global ∙ sym c.in-Ok-try_get.ensures.value),
    )
