use Rattle.function_statement_checks.specs.View.{context_view}
use Rattle.function_whole.proofs.PartLaws.{control_refused, payloads_refused, scope_refused, statements_refused, strict_refused}
use Rattle.function_whole.proofs.body.check_body.Goals as goal

pub returns-in-Err : goal.returns-in-Err
returns-in-Err c =
    control_refused c.args.settings c.args.held (context_view c.args.context.now) c.check_control.new.trail c.new.result c.in-Err.error c.new.ensures.error c.new.ensures.spans c.in-Err.ensures

pub returns-in-Err-check_scope : goal.returns-in-Err-check_scope
returns-in-Err-check_scope c =
    scope_refused c.args.settings c.args.held (context_view c.args.context.now) c.check_scope.new.trail c.in-Err-check_scope.refusal c.in-Err-check_scope.ensures.fault

pub returns-in-Err-check_strictly : goal.returns-in-Err-check_strictly
returns-in-Err-check_strictly c =
    strict_refused c.args.settings c.args.held (context_view c.args.context.now) c.check_strictly.new.trail c.in-Err-check_strictly.refusal (c.in-Err-check_strictly.ensures.fault c.in-Ok-check_scope.ensures.scope)

pub returns-in-Err-validate_statements : goal.returns-in-Err-validate_statements
returns-in-Err-validate_statements c =
    statements_refused c.args.settings c.args.held (context_view c.args.context.now) c.validate_statements.new.trail c.in-Err-validate_statements.refusal c.in-Err-validate_statements.ensures

pub returns-in-Err-payload_of : goal.returns-in-Err-payload_of
returns-in-Err-payload_of c =
    payloads_refused c.args.settings c.args.held (context_view c.args.context.now) c.payload_of.new.trail c.new-in-Err-payload_of.result c.in-Err-payload_of.error c.new-in-Err-payload_of.ensures.error c.new-in-Err-payload_of.ensures.spans
    c.in-Err-payload_of.ensures
