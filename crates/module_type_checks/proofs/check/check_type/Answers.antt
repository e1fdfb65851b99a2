use Rattle.ir_types.specs.judged.Plain.{inner_view}
use Rattle.module_type_checks.proofs.Checks.{names_within, type_answer}
use Rattle.module_type_checks.proofs.check.check_type.Goals as goal

pub check_inner-requires-clause-named : goal.check_inner-requires-clause-named
check_inner-requires-clause-named c = names_within c.args.context.now c.args.handle (inner_view c.type_at.result.now) c.requires.known c.requires.before c.type_at.ensures

pub returns : goal.returns
returns c = type_answer c.args.context.now c.args.handle (inner_view c.type_at.result.now) c.check_inner.result c.requires.known c.type_at.ensures c.check_inner.ensures
