use Rattle.std.proofs.Common.{map}
use Rattle.function_modules.proofs.Chained.{conditions_at, judged_more, one_longer, own_more, reported_refusal}
use Rattle.function_modules.specs.Judged.{FunctionKeeps}
use Rattle.function_modules.proofs.Placed.{view_there}
use Rattle.ir_items.specs.found.View.{function_view, module_view}
use Rattle.typing_handles.proofs.Ordered.{order_gives_conditions}
use Rattle.function_modules.proofs.functions.judge_next.Goals as goal

pub validate_function_with-requires-clause-handles : goal.validate_function_with-requires-clause-handles
validate_function_with-requires-clause-handles g c =
    let m = c.args.«module».now in
    (conditions_at (module_view m) c.requires.handles c.args.handle (function_view c.index.result.now) (view_there m.functions c.args.handle c.index.result.now c.index.ensures function_view)).in_range

pub validate_function_with-requires-clause-precede : goal.validate_function_with-requires-clause-precede
validate_function_with-requires-clause-precede g c =
    let m = c.args.«module».now in
    (conditions_at (module_view m) c.requires.handles c.args.handle (function_view c.index.result.now) (view_there m.functions c.args.handle c.index.result.now c.index.ensures function_view)).operands

pub validate_function_with-requires-clause-parents : goal.validate_function_with-requires-clause-parents
validate_function_with-requires-clause-parents g c = (order_gives_conditions (module_view c.args.«module».now) c.requires.handles).filters

pub returns-in-Ok : goal.returns-in-Ok
returns-in-Ok g c =
    let v = c.args.validator.now in
    let m = c.args.«module».now in
    let s = v.settings in
    let at = view_there m.functions c.args.handle c.index.result.now c.index.ensures function_view in
    let before = c.requires.before in
    record {
      judged = judged_more (module_view m) c.requires.handles (g.L.Lower.reading v.lower) s c.args.handle (map (g.L.Lower.summary v.lower) c.args.infos.now) (map (g.L.Lower.noted v.lower) c.args.infos.now) c.args.held before.judged
          (function_view c.index.result.now) at (g.L.Lower.summary v.lower c.in-Ok.validated.info) (g.L.Lower.noted v.lower c.in-Ok.validated.info) c.in-Ok.validated.held c.in-Ok.ensures.accepted c.in-Ok.ensures.chains c.in-Ok.ensures.stages
          c.in-Ok.ensures.held;
      as_many = one_longer c.args.infos.now c.in-Ok.validated.info c.args.handle before.as_many;
      own = own_more (FunctionKeeps (g.L.Lower.own v.lower (module_view m)) (g.L.Lower.blending v.lower)) (module_view m).functions c.args.infos.now c.args.handle (function_view c.index.result.now) c.in-Ok.validated.info before.as_many at
          before.own (c.in-Ok.ensures.own, c.in-Ok.ensures.unblended);
    }

pub returns-in-Err : goal.returns-in-Err
returns-in-Err g c =
    let v = c.args.validator.now in
    let m = c.args.«module».now in
    let s = v.settings in
    let at = view_there m.functions c.args.handle c.index.result.now c.index.ensures function_view in
    reported_refusal (module_view m) c.requires.handles (g.L.Lower.reading v.lower) s c.args.handle (map (g.L.Lower.summary v.lower) c.args.infos.now) (map (g.L.Lower.noted v.lower) c.args.infos.now) c.args.held c.requires.before.judged (function_view c.index.result.now) at
    (g.L.Lower.faults v.lower) c.validate_function_with.new.trail c.in-Err.refusal c.refusal_at.result c.refusal_at.ensures c.in-Err.ensures.refused c.in-Err.ensures.placed
