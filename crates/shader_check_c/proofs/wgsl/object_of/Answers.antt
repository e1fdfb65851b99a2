use Rattle.std.proofs.Common.{◌∙◌, ap}
use Rattle.check_wgsl.specs.Answered.{verdict_of}
use Rattle.shader_check_c.proofs.ListedWgsl.{object_of_wgsl}
use Rattle.shader_check_c.proofs.wgsl.object_of.Goals as goal

pub returns : goal.returns
returns c = object_of_wgsl c.args.diagnosed.explanation c.requires _ _ _ (c.verdict_of-verdict.ensures ∙ ap verdict_of c.finding.ensures) c.json-object.ensures c.with_verdict.ensures
