use Rattle.std.proofs.Common.{◌≡◌, drop, map}
use Rattle.check_faults.specs.Tables.{listed}
use Rattle.check_reasons.specs.Hints.{hint_for}
use Rattle.check_reasons.proofs.hints.hint_on.Given as goal

-- the rest of the table has the same hint as the whole
abbrev pub invariant-loop-row : goal.invariant-loop-row
invariant-loop-row l = hint_for l.begin (map listed (drop l.row-index l.table)) ≡ hint_for l.begin (map listed l.table)
