-- The lines of the entry points so far are written.
use Rattle.ir_items.specs.found.View.{module_view}
use Rattle.judgement_report.specs.Reported.{Tells, AreEntryLines}
use Rattle.judgement_report.proofs.entries.tell_entries.Given as goal

abbrev pub invariant-loop-number : goal.invariant-loop-number
invariant-loop-number g l = Tells (AreEntryLines (module_view l.«module») l.number) (g.S.RowSink.told l.fn.out) (g.S.RowSink.told l.out)
