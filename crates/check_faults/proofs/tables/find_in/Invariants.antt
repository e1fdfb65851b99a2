use Rattle.std.proofs.Common.{◌≡◌, drop, map}
use Rattle.check_faults.specs.Tables.{lookup, spelled}
use Rattle.check_faults.proofs.tables.find_in.Given as goal

-- the word has the same value in the rest of the table
abbrev pub invariant-loop-entry : goal.invariant-loop-entry
invariant-loop-entry g l = lookup l.word (map spelled (drop l.entry-index l.table)) ≡ lookup l.word (map spelled l.table)
