use Rattle.std.proofs.Common.{map, refl}
use Rattle.function_interface.specs.Analysis.{IsFaultBefore, in_analysis, in_arity}
use Rattle.function_interface.specs.Arities.{IsArityFaultAt}
use Rattle.function_interface.specs.Question.{question}
use Rattle.function_interface.proofs.RefusedAs.{refused_anywhere, told_at}
use Rattle.ir_items.specs.found.View.{function_view, module_view}
use Rattle.ir_places.proofs.TrailLaws.{placed_then}
use Rattle.function_interface.proofs.analysed.analyse_function.Goals as goal

pub returns-in-Ok-analyse-clause-kept : goal.returns-in-Ok-analyse-clause-kept
returns-in-Ok-analyse-clause-kept g c =
    c.in-Ok-analyse.ensures.kept (map (g.L.Lower.summary c.args.lower.now) c.args.callees.now) (λ callee arguments call. refl)

pub returns-in-Err-clause-fault : goal.returns-in-Err-clause-fault
returns-in-Err-clause-fault g c =
    let m = module_view c.args.«module».now in
    let f = function_view c.args.function.now in
    let summaries = map (g.L.Lower.summary c.args.lower.now) c.args.callees.now in
    let q = question m f summaries (map (g.L.Lower.noted c.args.lower.now) c.args.callees.now) in
    let faults = g.L.Lower.faults c.args.lower.now q in
    let t = c.check_arities.new.trail in
    told_at t (IsFaultBefore faults c.args.flags m f) c.new.result c.in-Err.error c.new.ensures.error c.new.ensures.spans
    (placed_then t (IsArityFaultAt m f c.in-Err.error) (IsFaultBefore faults c.args.flags m f c.in-Err.error) (λ p w. in_arity w) c.in-Err.ensures)

pub returns-in-Err-analyse-clause-fault : goal.returns-in-Err-analyse-clause-fault
returns-in-Err-analyse-clause-fault g c =
    let m = module_view c.args.«module».now in
    let f = function_view c.args.function.now in
    let summaries = map (g.L.Lower.summary c.args.lower.now) c.args.callees.now in
    let q = question m f summaries (map (g.L.Lower.noted c.args.lower.now) c.args.callees.now) in
    let faults = g.L.Lower.faults c.args.lower.now q in
    refused_anywhere c.check_arities.new.trail (faults.IsAnalysisFault c.args.flags) (IsFaultBefore faults c.args.flags m f) (λ e p w. in_analysis c.in-Ok.ensures w)
    c.in-Err-analyse.refusal (c.in-Err-analyse.ensures.fault summaries (λ callee arguments call. refl))
