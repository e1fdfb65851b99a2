use Rattle.std.proofs.Common.{sym, ◌∙◌}
use Rattle.judgement_report.proofs.LeavesWritten.{dot_for_none, path_for_some}
use Rattle.judgement_report.proofs.listing_lines.path_word.Goals as goal

pub returns-then-is_empty : goal.returns-then-is_empty
returns-then-is_empty c = dot_for_none c.args.path.now (sym c.is_empty.ensures ∙ c.if-is_empty.true)

pub returns-else-is_empty : goal.returns-else-is_empty
returns-else-is_empty c = path_for_some c.args.path.now (sym c.is_empty.ensures ∙ c.if-is_empty.false)
