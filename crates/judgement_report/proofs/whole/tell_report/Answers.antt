use Rattle.std.proofs.Common.{length}
use Rattle.std.proofs.lemmas.Result.{on_ok_weaker}
use Rattle.ir_items.specs.found.View.{module_view}
use Rattle.judgement_report.proofs.Written.{whole}
use Rattle.judgement_report.specs.Reported.{AreEntryLines, Tells}
use Rattle.judgement_report.proofs.whole.tell_report.Goals as goal

pub returns : goal.returns
returns g c =
    let m = module_view c.args.«module».now in
    on_ok_weaker c.tell_entries.result
    (λ (t : Tells (AreEntryLines m (length m.entries)) (g.S.RowSink.told c.tell_buffers.new.out) (g.S.RowSink.told c.tell_entries.new.out)).
    whole m (g.S.RowSink.told c.args.out.now) (g.S.RowSink.told c.tell_buffers.new.out) (g.S.RowSink.told c.tell_entries.new.out) c.in_ok-tell_buffers.ensures t) c.tell_entries.ensures
