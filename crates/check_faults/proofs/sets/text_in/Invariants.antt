use Rattle.std.proofs.Common.{◌≡◌, drop, map}
use Rattle.check_faults.specs.Tables.{list_for, listed}
use Rattle.check_faults.proofs.sets.text_in.Given as goal

-- the word has the same value in the rest of the table
abbrev pub invariant-loop-row : goal.invariant-loop-row
invariant-loop-row l = list_for l.word (map listed (drop l.row-index l.table)) ≡ list_for l.word (map listed l.table)
