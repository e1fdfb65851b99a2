-- The text so far, with the lines of the rest, is the text of all.
use Rattle.std.proofs.Common.{◌≡◌, ◌++◌, drop, string_bytes}
use Rattle.judgement_report.specs.Lines.{listing_lines}
use Rattle.judgement_report.proofs.listing_lines.write_listing.Given as goal

abbrev pub invariant-loop-row : goal.invariant-loop-row
invariant-loop-row l = string_bytes l.text ++ listing_lines (drop l.row-index l.rows) ≡ string_bytes l.fn.text ++ listing_lines l.rows
