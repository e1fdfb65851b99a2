-- The text so far, with the lines of the rest, is the text of all.
use Rattle.std.proofs.Common.{◌≡◌, ◌++◌, drop}
use Rattle.ir_items.specs.found.View.{module_view}
use Rattle.judgement.specs.judged.Lines.{each_from, buffer_of, buffers}
use Rattle.judgement_report.proofs.buffers.tell_buffers.Given as goal

abbrev pub invariant-loop-number : goal.invariant-loop-number
invariant-loop-number g l = let m = module_view l.«module» in g.S.RowSink.told l.out ++ each_from (buffer_of m.types) l.number (drop l.number m.globals) ≡ g.S.RowSink.told l.fn.out ++ buffers m
