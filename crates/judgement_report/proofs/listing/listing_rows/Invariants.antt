-- The text so far, with the lines of the rest, is the text of all.
use Rattle.std.proofs.Common.{◌≡◌, ◌++◌, drop}
use Rattle.ir_items.specs.found.View.{module_view}
use Rattle.judgement_report.specs.Lines.{described, leaf_report, listing_lines}
use Rattle.judgement.specs.judged.Lines.{each_from}
use Rattle.judgement_report.proofs.listing.listing_rows.Given as goal

abbrev pub invariant-loop-number : goal.invariant-loop-number
invariant-loop-number l = let m = module_view l.«module» in listing_lines l.out.rows.items ++ each_from (described m.types) l.number (drop l.number m.globals) ≡ leaf_report m
