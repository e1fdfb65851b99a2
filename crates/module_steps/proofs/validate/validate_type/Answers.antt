use Rattle.module_steps.proofs.Refuted.{refuted}
use Rattle.module_steps.proofs.validate.validate_type.Goals as goal

pub returns-in-Ok : goal.returns-in-Ok
returns-in-Ok c = record { ok = c.in-Ok.ensures; info = c.info_of.ensures }

pub returns-in-Err : goal.returns-in-Err
returns-in-Err c = record { i = c.in-Err.ensures.i; at = c.in-Err.ensures.at; fault = c.in-Err.ensures.fault; not = refuted c.args.context.now c.args.handle c.in-Err.error c.requires.known c.in-Err.ensures }
