use Rattle.ir_types.specs.judged.Plain.{inner_view}
use Rattle.module_type_checks.proofs.Checks.{names_within}
use Rattle.module_steps.proofs.info.info_of.Goals as goal

pub info_of_inner-requires-clause-named : goal.info_of_inner-requires-clause-named
info_of_inner-requires-clause-named c = names_within c.args.context.now c.args.handle (inner_view c.type_at.result.now) c.requires.known c.requires.before c.type_at.ensures

pub info_of_inner-requires-clause-aligned : goal.info_of_inner-requires-clause-aligned
info_of_inner-requires-clause-aligned c = (c.requires.known.held.each c.args.handle c.index.result.now c.index.ensures).alignment
