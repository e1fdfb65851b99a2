use Rattle.std.proofs.Common.{◌++◌, ap, ◌∙◌}
use Rattle.ir_arena.specs.found.Arenas.{value_at}
use Rattle.ir_items.specs.found.GlobalView.{global_view}
use Rattle.ir_items.specs.found.View.{module_view}
use Rattle.judgement_report.proofs.Counted.{global_found}
use Rattle.judgement_report.proofs.Written.{each_more}
use Rattle.judgement.specs.judged.Lines.{buffer_of, buffers}
use Rattle.judgement_report.proofs.buffers.tell_buffers.Goals as goal

pub tell_variable-requires-clause-typed : goal.tell_variable-requires-clause-typed
tell_variable-requires-clause-typed g c =
    let at = global_found global_view c.args.«module».now.global_variables c.loop-number.number c.index-variable.result.now (c.index-variable.ensures ∙ ap (value_at c.args.«module».now.global_variables) c.at.ensures) in
    c.requires.typed c.loop-number.number (global_view c.index-variable.result.now) at

pub loop-number-preserved : goal.loop-number-preserved
loop-number-preserved g c =
    let m = module_view c.args.«module».now in
    let at = global_found global_view c.args.«module».now.global_variables c.loop-number.number c.index-variable.result.now (c.index-variable.ensures ∙ ap (value_at c.args.«module».now.global_variables) c.at.ensures) in
    each_more (buffer_of m.types) m.globals c.loop-number.number (global_view c.index-variable.result.now) (g.S.RowSink.told c.loop-number.out) (g.S.RowSink.told c.tell_variable.new.out) (g.S.RowSink.told c.args.out.now ++ buffers m) at c.loop-number.invariant c.in_ok-tell_variable.ensures
