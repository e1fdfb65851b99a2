use Rattle.std.proofs.Common.{rules, IsTrue, map}
use Rattle.function_whole.proofs.PartLaws.{asked_blocks, body_refused, unanswered_refused}
use Rattle.function_statement_checks.specs.View.{context_view}
use Rattle.function_whole.proofs.parts.blocks_met.Goals as goal

pub returns : goal.returns
returns g c =
    let asked : IsTrue c.requires_blocks.result = search rules in
    asked_blocks c.args.settings c.args.held (context_view c.args.context.now) (map (g.L.Lower.noted c.args.lower.now) c.args.callees.now) c.stages_of.result c.in-Ok.found.answered c.in-Ok.found.held
    (c.requires_blocks.ensures.0 asked) c.in-Ok.ensures c.in-Ok-answers_met.ensures c.stages_of.ensures

pub returns-in-Err : goal.returns-in-Err
returns-in-Err g c =
    let asked : IsTrue c.requires_blocks.result = search rules in
    body_refused c.check_body.new.trail c.args.settings c.args.held (context_view c.args.context.now) (c.requires_blocks.ensures.0 asked) c.in-Err.refusal c.in-Err.ensures

pub returns-in-Err-answers_met : goal.returns-in-Err-answers_met
returns-in-Err-answers_met g c =
    let asked : IsTrue c.requires_blocks.result = search rules in
    unanswered_refused c.check_body.new.trail c.args.settings c.args.held (context_view c.args.context.now) c.in-Ok.found.answered c.in-Ok.found.held (c.requires_blocks.ensures.0 asked) c.in-Ok.ensures c.in-Err-answers_met.refusal c.in-Err-answers_met.ensures
