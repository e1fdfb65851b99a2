use Rattle.std.proofs.Common.{◌∙◌, map}
use Rattle.std.proofs.lemmas.List.{length-map}
use Rattle.function_modules.proofs.EntrySteps.{entry_conditions, entry_known, judged_more, payload_there, output_there, reported_entry}
use Rattle.function_modules.proofs.Chained.{one_longer, own_more}
use Rattle.function_modules.proofs.Placed.{item_there}
use Rattle.function_modules.specs.JudgedEntries.{EntryKeeps, note_of}
use Rattle.ir_items.specs.found.View.{entry_view, module_view}
use Rattle.typing_handles.proofs.Ordered.{order_gives_conditions}
use Rattle.function_modules.proofs.entries.judge_next.Goals as goal

pub validate_entry_point_with-requires-clause-handles : goal.validate_entry_point_with-requires-clause-handles
validate_entry_point_with-requires-clause-handles g c =
    let m = c.args.«module».now in
    (entry_conditions (module_view m) c.requires.handles c.args.index (entry_view c.index.result.now) (item_there entry_view m.entry_points.items c.args.index c.requires.within c.index.result.now c.index.ensures)).in_range

pub validate_entry_point_with-requires-clause-precede : goal.validate_entry_point_with-requires-clause-precede
validate_entry_point_with-requires-clause-precede g c =
    let m = c.args.«module».now in
    (entry_conditions (module_view m) c.requires.handles c.args.index (entry_view c.index.result.now) (item_there entry_view m.entry_points.items c.args.index c.requires.within c.index.result.now c.index.ensures)).operands

pub validate_entry_point_with-requires-clause-parents : goal.validate_entry_point_with-requires-clause-parents
validate_entry_point_with-requires-clause-parents g c = (order_gives_conditions (module_view c.args.«module».now) c.requires.handles).filters

pub validate_entry_point_with-requires-clause-payload : goal.validate_entry_point_with-requires-clause-payload
validate_entry_point_with-requires-clause-payload g c =
    let m = c.args.«module».now in
    payload_there (module_view m) c.requires.handles c.args.index (entry_view c.index.result.now) (item_there entry_view m.entry_points.items c.args.index c.requires.within c.index.result.now c.index.ensures)

pub validate_entry_point_with-requires-clause-output : goal.validate_entry_point_with-requires-clause-output
validate_entry_point_with-requires-clause-output g c =
    let m = c.args.«module».now in
    output_there (module_view m) c.requires.handles c.args.index (entry_view c.index.result.now) (item_there entry_view m.entry_points.items c.args.index c.requires.within c.index.result.now c.index.ensures)

pub validate_entry_point_with-requires-clause-known : goal.validate_entry_point_with-requires-clause-known
validate_entry_point_with-requires-clause-known g c =
    let m = c.args.«module».now in
    let summary = g.L.Lower.summary c.args.validator.now.lower in
    entry_known (module_view m) c.requires.handles c.args.index (entry_view c.index.result.now) (item_there entry_view m.entry_points.items c.args.index c.requires.within c.index.result.now c.index.ensures)
    (map summary c.args.callees.now) (length-map c.args.callees.now summary ∙ c.requires.many) c.requires.known

pub returns-in-Ok-clause-judged : goal.returns-in-Ok-clause-judged
returns-in-Ok-clause-judged g c =
    let v = c.args.validator.now in
    let m = c.args.«module».now in
    let summary = g.L.Lower.summary v.lower in
    let at = item_there entry_view m.entry_points.items c.args.index c.requires.within c.index.result.now c.index.ensures in
    let before = c.requires.before in
    record {
      judged = judged_more (module_view m) c.requires.handles c.args.index (entry_view c.index.result.now) at (g.L.Lower.reading v.lower) (g.L.Lower.faults v.lower) v.settings (map summary c.args.callees.now)
          (map (g.L.Lower.noted v.lower) c.args.callees.now) (map summary c.args.kept.now) (map (note_of (g.L.Lower.noted v.lower) (g.L.Lower.blending v.lower)) c.args.kept.now) c.args.held before.judged
          (c.requires.apart (entry_view c.index.result.now) at) (summary c.in-Ok.validated.info) (g.L.Lower.noted v.lower c.in-Ok.validated.info) (g.L.Lower.blending v.lower c.in-Ok.validated.info) c.in-Ok.validated.held
          c.in-Ok.ensures.judged;
      as_many = one_longer c.args.kept.now c.in-Ok.validated.info c.args.index before.as_many;
      own = own_more (EntryKeeps (g.L.Lower.own v.lower (module_view m))) (module_view m).entries c.args.kept.now c.args.index (entry_view c.index.result.now) c.in-Ok.validated.info before.as_many at before.own c.in-Ok.ensures.own;
    }

pub returns-in-Err-clause-judged : goal.returns-in-Err-clause-judged
returns-in-Err-clause-judged g c =
    let v = c.args.validator.now in
    let m = c.args.«module».now in
    let summary = g.L.Lower.summary v.lower in
    let at = item_there entry_view m.entry_points.items c.args.index c.requires.within c.index.result.now c.index.ensures in
    reported_entry (module_view m) c.requires.handles c.args.index (entry_view c.index.result.now) at (g.L.Lower.reading v.lower) (g.L.Lower.faults v.lower) v.settings (map summary c.args.callees.now)
    (map (g.L.Lower.noted v.lower) c.args.callees.now) (map summary c.args.kept.now) (map (note_of (g.L.Lower.noted v.lower) (g.L.Lower.blending v.lower)) c.args.kept.now) c.args.held c.requires.before.judged c.validate_entry_point_with.new.trail c.in-Err.refusal c.refusal_at.result c.refusal_at.ensures c.in-Err.ensures.judged c.in-Err.ensures.placed
