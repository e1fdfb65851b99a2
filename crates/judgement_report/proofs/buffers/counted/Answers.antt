use Rattle.std.proofs.Common.{unwrap_or, ap, ◌∙◌}
use Rattle.typing_forms.proofs.Lookups.{inner_found}
use Rattle.spec_interface.specs.judged.Spaces.{array_base}
use Rattle.judgement_report.proofs.buffers.counted.Goals as goal

pub returns : goal.returns
returns c = c.unwrap_or.ensures ∙ ap (λ o. unwrap_or o c.args.ty) (c.array_base.ensures ∙ ap array_base (inner_found c.args.«module».now.types c.args.ty c.index.result.now c.index.ensures))
