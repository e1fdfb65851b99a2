use Rattle.std.proofs.Common.{◌∙◌, ap}
use Rattle.check_explanation.specs.Answered.{verdict_of}
use Rattle.shader_check_c.proofs.Listed.{object_of_spirv}
use Rattle.shader_check_c.proofs.answer.object_of.Goals as goal

pub returns : goal.returns
returns c = object_of_spirv c.args.traced.explanation c.requires _ _ _ (c.verdict_of-verdict.ensures ∙ ap verdict_of c.finding.ensures) c.json-object.ensures c.with_verdict.ensures
