-- Why a function has no summary.
use Rattle.std.specs.Prelude.{List}
use Rattle.ir_items.specs.judged.Plain.{PlainFunction, PlainModule}
use Rattle.spec_expressions.specs.judged.Summaries.{Summary, IsFormFault}
use Rattle.spec_expressions.specs.judged.Context.{inside}
use Rattle.typing_analysis.specs.declared.summary.SummaryError.{SummaryError}
use Rattle.typing_analysis.specs.declared.summary.SummaryError.TheVariants.{Memory, Untyped, WrongForm}
use Rattle.typing_infos.specs.Types.{IsUntypedFirst}

-- the error is out of memory, or a fault that the function has
abbrev pub IsSummaryFault : PlainModule → PlainFunction → List Summary → SummaryError → Type 0
IsSummaryFault m f summaries (Memory error) = Unit {0}
IsSummaryFault m f summaries (Untyped expression error) = IsUntypedFirst (inside m f) f.expressions expression error
IsSummaryFault m f summaries (WrongForm expression) = IsFormFault f summaries expression
