use Rattle.std.proofs.Common.{sym, subst}
use Rattle.typing_analysis.specs.Processed.{IsAnalysisFault}
use Rattle.typing_analysis.proofs.process.refused_at.Goals as goal

pub returns : goal.returns
returns c = λ flags m f summaries fault. (subst (IsAnalysisFault flags m f summaries) (sym c.new.ensures.error) fault, c.new.ensures.spans)
