-- The text so far, with the lines of the rest, is the text of all.
use Rattle.std.proofs.Common.{◌≡◌, ◌++◌, drop, flat_map, string_bytes}
use Rattle.judgement_report.specs.Lines.{row_line}
use Rattle.judgement_report.proofs.rows.write_rows.Given as goal

abbrev pub invariant-loop-row : goal.invariant-loop-row
invariant-loop-row l = string_bytes l.text ++ flat_map row_line (drop l.row-index l.rows) ≡ string_bytes l.fn.text ++ flat_map row_line l.rows
