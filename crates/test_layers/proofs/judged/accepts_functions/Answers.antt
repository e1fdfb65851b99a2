use Rattle.std.proofs.Common.{ap, ◌∙◌, false}
use Rattle.shader_ir.specs.View.{module_view}
use Rattle.test_layers.proofs.judged.accepts_functions.Goals as goal

pub validate_functions-answer-requires-clause-made : goal.validate_functions-answer-requires-clause-made
validate_functions-answer-requires-clause-made c =
    let validator = c.new-validator.ensures in
    c.made_for_accepted.ensures _ false (module_view c.args.«module».now) c.in-Ok.info c.new-validator.result.lower c.in-Ok.ensures.accepted c.in-Ok.ensures.told
    (ap (λ v. v.lower.info) validator ∙ c.new-lower.ensures.info) (ap (λ v. v.lower.severities) validator ∙ c.new-lower.ensures.severities)
