use Rattle.std.proofs.Common.{sym, ◌∙◌, subst}
use Rattle.ir_items.specs.found.View.{function_view, module_view}
use Rattle.typing_analysis.specs.Processed.{IsAnalysisFault, non_uniform}
use Rattle.typing_analysis.proofs.process.check_uniformity.Goals as goal

pub returns-in-Ok-None-clause-clear : goal.returns-in-Ok-None-clause-clear
returns-in-Ok-None-clause-clear c = c.in-Ok-None.ensures.clear c.in-Ok-None.field-0-is

pub returns-in-Ok-Some-clause-fault : goal.returns-in-Ok-Some-clause-fault
returns-in-Ok-Some-clause-fault c = λ summaries. (
  subst (IsAnalysisFault c.args.flags (module_view c.args.«module».now) (function_view c.args.function.now) summaries) (sym (c.new.ensures.error ∙ c.into_error.ensures))
      (non_uniform (c.in-Ok-Some.ensures.fault c.in-Ok-Some.fault c.in-Ok-Some.field-0-is)),
  c.new.ensures.spans,
)
