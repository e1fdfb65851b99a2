use Rattle.std.proofs.Common.{◌≡◌, None, map, length, sym, subst, ◌∙◌, arith}
use Rattle.std.proofs.lemmas.List.{length-map}
use Rattle.function_modules.proofs.Chained.{none_judged}
use Rattle.function_modules.specs.Judged.{AreJudgedWith, FunctionKeeps}
use Rattle.ir_arena.specs.found.Arenas.{value_of_entry}
use Rattle.ir_items.specs.found.GlobalView.{values_of}
use Rattle.ir_items.specs.found.View.{function_view, module_view}
use Rattle.function_modules.proofs.functions.judge_all.Goals as goal

pub loop-index-init : goal.loop-index-init
loop-index-init g c =
    let v = c.args.validator.now in
    let m = module_view c.args.«module».now in
    let Own = FunctionKeeps (g.L.Lower.own v.lower m) (g.L.Lower.blending v.lower) in
    subst (λ xs. AreJudgedWith (g.L.Lower.reading v.lower) v.settings m Own 0 xs (map (g.L.Lower.summary v.lower) xs) (map (g.L.Lower.noted v.lower) xs) None) (sym c.in_ok-infos.ensures.items)
    (none_judged (g.L.Lower.reading v.lower) v.settings m Own)

pub returns : goal.returns
returns g c =
    let v = c.args.validator.now in
    let m = c.args.«module».now in
    let seen : length (module_view m).functions ≡ length m.functions = length-map (values_of m.functions) function_view ∙ length-map m.functions value_of_entry in
    let past = c.loop-index-test.false in
    let end : c.loop-index.index ≡ length (module_view m).functions = omega (arith, past, c.loop-index.auto.index-end, c.len-count.ensures.value, seen) in
    subst (λ n. AreJudgedWith (g.L.Lower.reading v.lower) v.settings (module_view m) (FunctionKeeps (g.L.Lower.own v.lower (module_view m)) (g.L.Lower.blending v.lower)) n c.loop-index.infos.items (map (g.L.Lower.summary v.lower) c.loop-index.infos.items) (map (g.L.Lower.noted v.lower) c.loop-index.infos.items) c.loop-index.held) end
    c.loop-index.invariant
