use Rattle.std.proofs.Common.{map}
use Rattle.function_modules.specs.Judged.{AreJudgedWith, FunctionKeeps}
use Rattle.ir_items.specs.found.View.{module_view}
use Rattle.function_modules.proofs.functions.judge_all.Given as goal

-- the functions before this one are judged
abbrev pub invariant-loop-index : goal.invariant-loop-index
invariant-loop-index g l =
    AreJudgedWith (g.L.Lower.reading l.validator.lower) l.validator.settings (module_view l.«module») (FunctionKeeps (g.L.Lower.own l.validator.lower (module_view l.«module»)) (g.L.Lower.blending l.validator.lower)) l.index l.infos.items
    (map (g.L.Lower.summary l.validator.lower) l.infos.items) (map (g.L.Lower.noted l.validator.lower) l.infos.items) l.held
