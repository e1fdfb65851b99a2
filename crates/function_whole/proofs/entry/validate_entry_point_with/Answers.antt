use Rattle.std.proofs.Common.{◌∙◌, map, sym, subst, true≢false}
use Rattle.function_whole.proofs.EntryWhole.{anywhere, connections_at, function_at, runs_at, by_stage, by_function, by_payload, by_runs, by_connections, connected, entry_summary, noted_still, refused_as, runs}
use Rattle.function_whole.specs.EntryFaults.{IsRefusedAs, IsUnconnected, of_payload, of_stage}
use Rattle.function_entry_checks.specs.declared.error.EntryPointError.TheVariants.{ForbiddenStageOperations}
use Rattle.ir_places.specs.Paths.{place_of}
use Rattle.function_interface.specs.Question.{question}
use Rattle.ir_items.specs.found.View.{entry_view, module_view}
use Rattle.spec_expressions.specs.judged.CallChains.{HasUse}
use Rattle.spec_expressions.specs.judged.Summaries.{HasUseBit}
use Rattle.spec_interface.specs.judged.Uses.{EntryUses}
use Rattle.function_whole.proofs.entry.validate_entry_point_with.Goals as goal

pub returns-in-Err-clause-judged : goal.returns-in-Err-clause-judged
returns-in-Err-clause-judged g c =
    let l = c.args.lower.now in
    let m = module_view c.args.«module».now in
    let e = entry_view c.args.entry.now in
    let stages = map (g.L.Lower.noted l) c.args.callees.now in
    let q = question m e.function (map (g.L.Lower.summary l) c.args.callees.now) stages in
    let s = c.args.settings in
    let held = c.args.held in
    (subst (IsRefusedAs (g.L.Lower.reading l q) (g.L.Lower.faults l q) stages (HasUse m e.function) s held m e) (sym c.new.ensures.error) (by_stage (g.L.Lower.reading l q) (g.L.Lower.faults l q) stages s held m e c.in-Err.error c.in-Err.ensures), c.new.ensures.spans)

pub returns-in-Err-validate_function_with-clause-judged : goal.returns-in-Err-validate_function_with-clause-judged
returns-in-Err-validate_function_with-clause-judged g c =
    let l = c.args.lower.now in
    let m = module_view c.args.«module».now in
    let e = entry_view c.args.entry.now in
    let stages = map (g.L.Lower.noted l) c.args.callees.now in
    let q = question m e.function (map (g.L.Lower.summary l) c.args.callees.now) stages in
    let s = c.args.settings in
    let held = c.args.held in
    let R = g.L.Lower.reading l q in
    let F = g.L.Lower.faults l q in
    let r = c.in-Err-validate_function_with.refusal in
    by_function R F stages s held m e r c.reported_of_function.result c.reported_of_function.ensures
    c.in-Err-validate_function_with.ensures.refused c.in-Err-validate_function_with.ensures.fault

pub returns-in-Err-check_payload-clause-judged : goal.returns-in-Err-check_payload-clause-judged
returns-in-Err-check_payload-clause-judged g c =
    let l = c.args.lower.now in
    let m = module_view c.args.«module».now in
    let e = entry_view c.args.entry.now in
    let stages = map (g.L.Lower.noted l) c.args.callees.now in
    let q = question m e.function (map (g.L.Lower.summary l) c.args.callees.now) stages in
    let s = c.args.settings in
    let held = c.args.held in (
      subst (IsRefusedAs (g.L.Lower.reading l q) (g.L.Lower.faults l q) stages (HasUse m e.function) s held m e) (sym c.new-in-Err-check_payload.ensures.error)
          (by_payload (g.L.Lower.reading l q) (g.L.Lower.faults l q) stages s held m e c.in-Err-check_payload.error c.in-Err-check_payload.ensures),
      c.new-in-Err-check_payload.ensures.spans,
    )

pub returns-then-not-allows_stage-clause-judged : goal.returns-then-not-allows_stage-clause-judged
returns-then-not-allows_stage-clause-judged g c =
    let l = c.args.lower.now in
    let m = module_view c.args.«module».now in
    let e = entry_view c.args.entry.now in
    let stages = map (g.L.Lower.noted l) c.args.callees.now in
    let q = question m e.function (map (g.L.Lower.summary l) c.args.callees.now) stages in
    let s = c.args.settings in
    let held = c.args.held in
    let R = g.L.Lower.reading l q in
    let v = c.in-Ok-validate_function_with.validated in
    let exact = c.in-Ok-validate_function_with.ensures.stages in (
      subst (IsRefusedAs R (g.L.Lower.faults l q) stages (HasUse m e.function) s held m e) (sym c.new-then-not-allows_stage.ensures.error)
          (by_runs R (g.L.Lower.faults l q) stages s held m e (g.L.Lower.noted l v.info) exact (λ has. true≢false (sym (c.allows_stage.ensures.1 has) ∙ c.if-not-allows_stage.true))),
      c.new-then-not-allows_stage.ensures.spans,
    )

pub returns-in-Ok-connect-clause-judged : goal.returns-in-Ok-connect-clause-judged
returns-in-Ok-connect-clause-judged g c =
    let l = c.args.lower.now in
    let m = module_view c.args.«module».now in
    let e = entry_view c.args.entry.now in
    let stages = map (g.L.Lower.noted l) c.args.callees.now in
    let q = question m e.function (map (g.L.Lower.summary l) c.args.callees.now) stages in
    let s = c.args.settings in
    let held = c.args.held in
    let R = g.L.Lower.reading l q in
    let F = g.L.Lower.faults l q in
    let v = c.in-Ok-validate_function_with.validated in
    let known = c.in-Ok-validate_function_with.ensures in
    let before = g.L.Lower.summary l v.info in
    let is = known.chains c.requires.known in
    let exact = known.stages in
    record {
      ok = record {
        stage = c.in-Ok.ensures;
        function = known.accepted;
        payload = c.in-Ok-check_payload.ensures;
        runs = runs R F stages s held m e (g.L.Lower.noted l v.info) exact (c.allows_stage.ensures.0 c.if-not-allows_stage.false);
        connections = connected R F stages s held m e before is c.in-Ok-connect.ensures.judged.0;
      };
      summary = entry_summary m e before (g.L.Lower.summary l c.in-Ok-connect.info) known.globals is c.in-Ok-connect.ensures.judged.1;
      noted = record { run = noted_still R stages s e (g.L.Lower.noted l v.info) (g.L.Lower.noted l c.in-Ok-connect.info) c.in-Ok-connect.ensures.stages exact; blended = c.in-Ok-connect.ensures.blended };
      after = known.held;
    }

pub returns-in-Err-connect-clause-judged : goal.returns-in-Err-connect-clause-judged
returns-in-Err-connect-clause-judged g c =
    let l = c.args.lower.now in
    let m = module_view c.args.«module».now in
    let e = entry_view c.args.entry.now in
    let stages = map (g.L.Lower.noted l) c.args.callees.now in
    let q = question m e.function (map (g.L.Lower.summary l) c.args.callees.now) stages in
    let s = c.args.settings in
    let held = c.args.held in
    let R = g.L.Lower.reading l q in
    let F = g.L.Lower.faults l q in
    let v = c.in-Ok-validate_function_with.validated in
    let before = g.L.Lower.summary l v.info in
    refused_as (IsUnconnected s.flags s.capabilities m e (EntryUses e (HasUseBit before.uses))) (IsRefusedAs R F stages (HasUse m e.function) s held m e)
    (λ x u. by_connections R F stages s held m e before (c.in-Ok-validate_function_with.ensures.chains c.requires.known) x u) c.in-Err-connect.refusal c.in-Err-connect.ensures.judged

pub returns-in-Ok-connect-clause-own : goal.returns-in-Ok-connect-clause-own
returns-in-Ok-connect-clause-own g c =
    c.in-Ok-connect.ensures.own (module_view c.args.«module».now) (entry_view c.args.entry.now).function c.in-Ok-validate_function_with.ensures.own

-- ---- where it stands

pub returns-in-Err-clause-placed : goal.returns-in-Err-clause-placed
returns-in-Err-clause-placed g c =
    let l = c.args.lower.now in
    let m = module_view c.args.«module».now in
    let e = entry_view c.args.entry.now in
    let stages = map (g.L.Lower.noted l) c.args.callees.now in
    let q = question m e.function (map (g.L.Lower.summary l) c.args.callees.now) stages in
    let s = c.args.settings in
    let held = c.args.held in
    let R = g.L.Lower.reading l q in
    let F = g.L.Lower.faults l q in
    anywhere R F stages s held m e c.args.trail.now c.new.result c.in-Err.error c.new.ensures.error (of_stage c.in-Err.ensures)

pub returns-in-Err-validate_function_with-clause-placed : goal.returns-in-Err-validate_function_with-clause-placed
returns-in-Err-validate_function_with-clause-placed g c =
    let l = c.args.lower.now in
    let m = module_view c.args.«module».now in
    let e = entry_view c.args.entry.now in
    let stages = map (g.L.Lower.noted l) c.args.callees.now in
    let q = question m e.function (map (g.L.Lower.summary l) c.args.callees.now) stages in
    let s = c.args.settings in
    let held = c.args.held in
    let R = g.L.Lower.reading l q in
    let F = g.L.Lower.faults l q in
    function_at R F stages s held m e c.validate_function_with.new.trail c.in-Err-validate_function_with.refusal c.reported_of_function.result c.reported_of_function.ensures c.in-Err-validate_function_with.ensures.placed

pub returns-in-Err-check_payload-clause-placed : goal.returns-in-Err-check_payload-clause-placed
returns-in-Err-check_payload-clause-placed g c =
    let l = c.args.lower.now in
    let m = module_view c.args.«module».now in
    let e = entry_view c.args.entry.now in
    let stages = map (g.L.Lower.noted l) c.args.callees.now in
    let q = question m e.function (map (g.L.Lower.summary l) c.args.callees.now) stages in
    let s = c.args.settings in
    let held = c.args.held in
    let R = g.L.Lower.reading l q in
    let F = g.L.Lower.faults l q in
    anywhere R F stages s held m e c.validate_function_with.new.trail c.new-in-Err-check_payload.result c.in-Err-check_payload.error c.new-in-Err-check_payload.ensures.error (of_payload c.in-Err-check_payload.ensures)

pub returns-then-not-allows_stage-clause-placed : goal.returns-then-not-allows_stage-clause-placed
returns-then-not-allows_stage-clause-placed g c =
    let l = c.args.lower.now in
    let m = module_view c.args.«module».now in
    let e = entry_view c.args.entry.now in
    let stages = map (g.L.Lower.noted l) c.args.callees.now in
    let q = question m e.function (map (g.L.Lower.summary l) c.args.callees.now) stages in
    let s = c.args.settings in
    let held = c.args.held in
    let R = g.L.Lower.reading l q in
    let F = g.L.Lower.faults l q in
    let v = c.in-Ok-validate_function_with.validated in
    let t = c.validate_function_with.new.trail in
    anywhere R F stages s held m e t c.new-then-not-allows_stage.result ForbiddenStageOperations c.new-then-not-allows_stage.ensures.error
    (runs_at R F stages s held m e (g.L.Lower.noted l v.info) c.in-Ok-validate_function_with.ensures.stages (place_of t) (λ has. true≢false (sym (c.allows_stage.ensures.1 has) ∙ c.if-not-allows_stage.true)))

pub returns-in-Err-connect-clause-placed : goal.returns-in-Err-connect-clause-placed
returns-in-Err-connect-clause-placed g c =
    let l = c.args.lower.now in
    let m = module_view c.args.«module».now in
    let e = entry_view c.args.entry.now in
    let stages = map (g.L.Lower.noted l) c.args.callees.now in
    let q = question m e.function (map (g.L.Lower.summary l) c.args.callees.now) stages in
    let s = c.args.settings in
    let held = c.args.held in
    let R = g.L.Lower.reading l q in
    let F = g.L.Lower.faults l q in
    let before = g.L.Lower.summary l c.in-Ok-validate_function_with.validated.info in
    connections_at R F stages s held m e before (c.in-Ok-validate_function_with.ensures.chains c.requires.known) c.validate_function_with.new.trail c.in-Err-connect.refusal c.in-Err-connect.ensures.judged
