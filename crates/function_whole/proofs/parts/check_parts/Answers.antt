use Rattle.std.proofs.Common.{map, refl}
use Rattle.ir_places.proofs.TrailLaws.{placed}
use Rattle.function_interface.proofs.RefusedAs.{refused_at, told_at}
use Rattle.function_whole.proofs.PartLaws.{behind_blocks, interface_refused, parts_met}
use Rattle.function_whole.specs.Faults.{IsFaultAfter, in_expressions, in_interface}
use Rattle.function_whole.specs.Judged.{IsBlocksFaultAt}
use Rattle.function_interface.specs.Question.{question}
use Rattle.function_statement_checks.specs.View.{context_view}
use Rattle.function_whole.proofs.parts.check_parts.Goals as goal

pub returns-in-Ok-blocks_met : goal.returns-in-Ok-blocks_met
returns-in-Ok-blocks_met g c =
    let q = question (context_view c.args.context.now).m (context_view c.args.context.now).f (map (g.L.Lower.summary c.args.lower.now) c.args.callees.now) (map (g.L.Lower.noted c.args.lower.now) c.args.callees.now) in
    let x = context_view c.args.context.now in
    let s = c.args.settings in
    parts_met (g.L.Lower.reading c.args.lower.now q) s c.args.entry_point c.args.held x q.stages c.in-Ok-blocks_met.met.stages c.in-Ok-expressions_met.stages c.in-Ok-blocks_met.met.held _ refl
    c.in-Ok.ensures c.in-Ok-expressions_met.ensures c.in-Ok-blocks_met.ensures

pub returns-in-Err : goal.returns-in-Err
returns-in-Err g c =
    let q = question (context_view c.args.context.now).m (context_view c.args.context.now).f (map (g.L.Lower.summary c.args.lower.now) c.args.callees.now) (map (g.L.Lower.noted c.args.lower.now) c.args.callees.now) in
    let x = context_view c.args.context.now in
    let s = c.args.settings in
    let reading = g.L.Lower.reading c.args.lower.now q in
    let faults = g.L.Lower.faults c.args.lower.now q in
    interface_refused c.args.trail.now _ _ (IsFaultAfter reading faults s c.args.entry_point c.args.held x) (λ e p w. in_interface w) c.in-Err.refusal c.in-Err.ensures

pub returns-in-Err-expressions_met : goal.returns-in-Err-expressions_met
returns-in-Err-expressions_met g c =
    let q = question (context_view c.args.context.now).m (context_view c.args.context.now).f (map (g.L.Lower.summary c.args.lower.now) c.args.callees.now) (map (g.L.Lower.noted c.args.lower.now) c.args.callees.now) in
    let x = context_view c.args.context.now in
    let s = c.args.settings in
    let reading = g.L.Lower.reading c.args.lower.now q in
    let faults = g.L.Lower.faults c.args.lower.now q in
    let after = IsFaultAfter reading faults s c.args.entry_point c.args.held x in
    told_at c.args.trail.now after c.new.result c.in-Err-expressions_met.error c.new.ensures.error c.new.ensures.spans
    (placed c.args.trail.now (after c.in-Err-expressions_met.error) (in_expressions c.in-Ok.ensures c.in-Err-expressions_met.ensures.0 c.in-Err-expressions_met.ensures.1))

pub returns-in-Err-blocks_met : goal.returns-in-Err-blocks_met
returns-in-Err-blocks_met g c =
    let q = question (context_view c.args.context.now).m (context_view c.args.context.now).f (map (g.L.Lower.summary c.args.lower.now) c.args.callees.now) (map (g.L.Lower.noted c.args.lower.now) c.args.callees.now) in
    let x = context_view c.args.context.now in
    let s = c.args.settings in
    let reading = g.L.Lower.reading c.args.lower.now q in
    let faults = g.L.Lower.faults c.args.lower.now q in
    refused_at c.blocks_met.new.trail (IsBlocksFaultAt s c.args.held x) (IsFaultAfter reading faults s c.args.entry_point c.args.held x) (behind_blocks reading faults s c.args.entry_point c.args.held x c.in-Ok.ensures c.in-Ok-expressions_met.ensures.accepted)
    c.in-Err-blocks_met.refusal c.in-Err-blocks_met.ensures
