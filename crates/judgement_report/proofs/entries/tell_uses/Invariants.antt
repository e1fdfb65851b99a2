-- The text so far, with the lines of the rest, is the text of all.
use Rattle.std.proofs.Common.{◌≡◌, ◌++◌, drop}
use Rattle.ir_items.specs.found.View.{entry_view}
use Rattle.judgement.specs.judged.Lines.{each_from, global_line}
use Rattle.judgement_report.proofs.entries.tell_uses.Given as goal

abbrev pub invariant-loop-number : goal.invariant-loop-number
invariant-loop-number g l = g.S.RowSink.told l.out ++ each_from (global_line (entry_view l.entry)) l.number (drop l.number l.uses) ≡ g.S.RowSink.told l.fn.out ++ each_from (global_line (entry_view l.entry)) 0 l.uses
