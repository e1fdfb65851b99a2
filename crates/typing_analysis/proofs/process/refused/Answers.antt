use Rattle.std.proofs.Common.{subst}
use Rattle.typing_analysis.specs.Faults.{IsSummaryFault}
use Rattle.typing_analysis.specs.Processed.{untyped, wrong_form}
use Rattle.typing_analysis.proofs.process.refused.Goals as goal

pub returns-in-Untyped : goal.returns-in-Untyped
returns-in-Untyped c = λ flags m f summaries fault. let told = subst (IsSummaryFault m f summaries) c.in-Untyped.is fault in c.refused_at.ensures flags m f summaries (untyped told.tells)

pub returns-in-WrongForm : goal.returns-in-WrongForm
returns-in-WrongForm c = λ flags m f summaries fault. let told = subst (IsSummaryFault m f summaries) c.in-WrongForm.is fault in c.refused_at-in-WrongForm.ensures flags m f summaries (wrong_form told)
