use Rattle.std.proofs.Common.{sym, ◌∙◌}
use Rattle.judgement_report.proofs.LeavesWritten.{a_dot, no_dot}
use Rattle.judgement_report.proofs.paths.dot_after.Goals as goal

pub returns-then-is_empty : goal.returns-then-is_empty
returns-then-is_empty c = no_dot c.args.before.now (sym c.is_empty.ensures ∙ c.if-is_empty.true)

pub returns-else-is_empty : goal.returns-else-is_empty
returns-else-is_empty c = a_dot c.args.before.now (sym c.is_empty.ensures ∙ c.if-is_empty.false)
