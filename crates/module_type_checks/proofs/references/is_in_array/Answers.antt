use Rattle.ir_types.specs.judged.Plain.{inner_view}
use Rattle.module_type_checks.proofs.Known.{bound_from}
use Rattle.module_type_checks.proofs.references.is_in_array.Goals as goal

pub returns : goal.returns
returns c = bound_from c.args.context.now c.args.base (inner_view c.type_at.result.now) c.is_bound.result c.requires.known c.type_at.ensures c.is_bound.ensures
