use Rattle.function_interface.proofs.Widened.{locals_refused, arguments_refused}
use Rattle.function_statement_checks.specs.View.{context_view}
use Rattle.function_interface.proofs.interface.check_interface.Goals as goal

pub returns-in-Err : goal.returns-in-Err
returns-in-Err c = locals_refused (context_view c.args.context.now) c.args.entry c.in-Err.refusal c.in-Err.ensures

pub returns-in-Err-check_arguments : goal.returns-in-Err-check_arguments
returns-in-Err-check_arguments c = arguments_refused (context_view c.args.context.now) c.args.entry c.in-Err-check_arguments.refusal c.in-Ok.ensures c.in-Err-check_arguments.ensures
