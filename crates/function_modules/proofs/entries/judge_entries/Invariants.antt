use Rattle.std.proofs.Common.{map}
use Rattle.function_whole.specs.FunctionEntries.{AreInterfacesKnown}
use Rattle.function_whole.specs.EntryNames.{AreNamesBelow}
use Rattle.function_modules.specs.JudgedEntries.{AreEntriesJudgedWith, EntryKeeps, note_of}
use Rattle.ir_items.specs.found.View.{module_view}
use Rattle.function_modules.proofs.entries.judge_entries.Given as goal

-- the entry points before are accepted, and their names are noted
abbrev pub invariant-loop-index : goal.invariant-loop-index
invariant-loop-index g l =
    let v = l.validator in
    let m = module_view l.«module» in
    let summary = g.L.Lower.summary v.lower in
    AreEntriesJudgedWith (g.L.Lower.reading v.lower) v.settings m (EntryKeeps (g.L.Lower.own v.lower m)) (map summary l.callees) (map (g.L.Lower.noted v.lower) l.callees) l.index l.infos.items (map summary l.infos.items) (map (note_of (g.L.Lower.noted v.lower) (g.L.Lower.blending v.lower)) l.infos.items) l.held × AreNamesBelow m l.index l.names
    × AreInterfacesKnown v.settings.flags v.settings.capabilities m.types l.known
