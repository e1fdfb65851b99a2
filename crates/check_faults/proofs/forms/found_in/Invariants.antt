use Rattle.std.proofs.Common.{◌≡◌, drop, map}
use Rattle.check_faults.specs.Tables.{list_for, listed}
use Rattle.check_faults.proofs.forms.found_in.Given as goal

-- the word has the same value in the rest of the table
abbrev pub invariant-loop-form : goal.invariant-loop-form
invariant-loop-form l = list_for l.wanted (map listed (drop l.form-index l.table)) ≡ list_for l.wanted (map listed l.table)
