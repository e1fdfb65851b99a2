use Rattle.std.proofs.Common.{◌≡◌, ◌<◌, ◌++◌, length, sym, ap, subst, ◌∙◌}
use Rattle.std.proofs.lemmas.Result.{on_ok_weaker}
use Rattle.ir_items.specs.found.GlobalView.{global_view}
use Rattle.judgement.specs.judged.Lines.{buffer_line, buffer_of}
use Rattle.ir_items.specs.found.View.{module_view}
use Rattle.judgement_report.proofs.Counted.{counted_there, buffer_told}
use Rattle.judgement_report.proofs.buffers.tell_variable.Goals as goal

pub layout-layout-requires : goal.layout-layout-requires
layout-layout-requires g c =
    let types = (module_view c.args.«module».now).types in
    subst (λ n. c.counted.result < n) (sym c.requires.laid.all) (subst (λ t. t < length types) (sym c.counted.ensures) (counted_there types c.requires.laid.back c.args.variable.now.ty c.requires.typed))

pub returns : goal.returns
returns g c =
    let types = (module_view c.args.«module».now).types in
    let layout = c.layout-layout.result in
    let told : buffer_line c.args.number layout.size c.get.result ≡ buffer_of types c.args.number (global_view c.args.variable.now) =
    ap (λ n. buffer_line c.args.number layout.size n) c.get.ensures.value
    ∙ buffer_told types c.args.number (global_view c.args.variable.now) c.counted.result layout (sym c.is_buffer.ensures ∙ c.if-not-is_buffer.false) c.counted.ensures (c.requires.laid.layouts.each c.counted.result layout c.layout-layout.ensures) in
    on_ok_weaker c.row.result
    (λ (e : g.S.RowSink.told c.row.new.self ≡ g.S.RowSink.told c.args.out.now ++ buffer_line c.args.number layout.size c.get.result). e ∙ ap (λ line. g.S.RowSink.told c.args.out.now ++ line) told) c.row.ensures
