-- The summary of a function before uniformity is checked.
use Rattle.std.specs.Prelude.{ℕ, List, length}
use Rattle.ir_items.specs.judged.Plain.{PlainFunction, PlainModule}
use Rattle.typing_uniformity.specs.Facts.{AreUniformities}
use Rattle.typing_summaries.specs.Tallied.{IsTally}
use Rattle.typing_summaries.specs.Tallies.{tallied}
use Rattle.spec_expressions.specs.judged.Summaries.{Summary, IsFormFault}
use Rattle.spec_expressions.specs.judged.Values.{AreStarts}
use Rattle.spec_expressions.specs.judged.Context.{inside}
use Rattle.typing_analysis.specs.declared.summary.Summarized.{Summarized}
use Rattle.typing_infos.specs.Types.{AreTypes}

-- This is the summary of the function, given the summaries of its callees, and no operand is of a wrong form.
pub record IsSummarized (m : PlainModule) (f : PlainFunction) (summaries : List Summary) (s : Summarized) : Type 0 where
  pub types : AreTypes (inside m f) f.expressions s.types.items
  pub uniformities : AreUniformities m f s.uniformities.items
  pub starts : AreStarts f.expressions s.globals.items
  pub tally : IsTally (length m.globals) f summaries (tallied s.tally)
  pub clear : (e : ℕ) → IsFormFault f summaries e → ⊥
