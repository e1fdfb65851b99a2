use Rattle.std.proofs.Common.{◌≡◌, ◌<◌, map, length, refl, sym, subst, arith}
use Rattle.std.proofs.lemmas.List.{length-map}
use Rattle.function_modules.proofs.EntrySteps.{none_judged, some_item, told_conflict}
use Rattle.function_modules.proofs.NameSteps.{no_names}
use Rattle.function_modules.specs.JudgedEntries.{AreEntriesJudgedWith, EntryKeeps, note_of}
use Rattle.ir_items.specs.found.View.{entry_view, module_view}
use Rattle.function_modules.proofs.entries.judge_entries.Goals as goal

pub loop-index-init : goal.loop-index-init
loop-index-init g c =
    let v = c.args.validator.now in
    let m = module_view c.args.«module».now in
    let summaries = map (g.L.Lower.summary v.lower) c.args.callees.now in
    let stages = map (g.L.Lower.noted v.lower) c.args.callees.now in (
      subst (λ xs. AreEntriesJudgedWith (g.L.Lower.reading v.lower) v.settings m (EntryKeeps (g.L.Lower.own v.lower m)) summaries stages 0 xs (map (g.L.Lower.summary v.lower) xs) (map (note_of (g.L.Lower.noted v.lower) (g.L.Lower.blending v.lower)) xs) c.args.held) (sym c.in_ok-infos.ensures.items)
          (record {
            judged = none_judged (g.L.Lower.reading v.lower) v.settings m summaries stages c.args.held c.requires.before;
            as_many = refl;
            own = λ i e j at there. absurd (let h = there in cc);
          }),
      no_names m c.new-names.result c.new-names.ensures,
      c.new-known.ensures v.settings.flags v.settings.capabilities m.types,
    )

pub returns : goal.returns
returns g c =
    let v = c.args.validator.now in
    let m = c.args.«module».now in
    let summary = g.L.Lower.summary v.lower in
    let many = length-map m.entry_points.items entry_view in
    let past = c.loop-index-test.false in
    let end : c.loop-index.index ≡ length (module_view m).entries = omega (arith, past, c.loop-index.auto.index-end, c.len-count.ensures, many) in
    subst (λ n. AreEntriesJudgedWith (g.L.Lower.reading v.lower) v.settings (module_view m) (EntryKeeps (g.L.Lower.own v.lower (module_view m))) (map summary c.args.callees.now) (map (g.L.Lower.noted v.lower) c.args.callees.now) n c.loop-index.infos.items (map summary c.loop-index.infos.items) (map (note_of (g.L.Lower.noted v.lower) (g.L.Lower.blending v.lower)) c.loop-index.infos.items) c.loop-index.held) end
    c.loop-index.invariant.0

pub returns-in-Err : goal.returns-in-Err
returns-in-Err g c =
    let v = c.args.validator.now in
    let m = c.args.«module».now in
    let summary = g.L.Lower.summary v.lower in
    let lt = c.loop-index-test.true in
    let many = length-map m.entry_points.items entry_view in
    let within : c.loop-index.index < length (module_view m).entries = omega (arith, lt, c.len-count.ensures, many) in
    let e = some_item (module_view m).entries c.loop-index.index within in
    told_conflict (module_view m) c.requires.handles c.loop-index.index e.0 e.1 (g.L.Lower.reading v.lower) (g.L.Lower.faults v.lower) v.settings (map summary c.args.callees.now)
    (map (g.L.Lower.noted v.lower) c.args.callees.now) (map summary c.loop-index.infos.items) (map (note_of (g.L.Lower.noted v.lower) (g.L.Lower.blending v.lower)) c.loop-index.infos.items) c.loop-index.held c.loop-index.invariant.0.judged c.in-Err.refusal c.in-Err.ensures.apart
