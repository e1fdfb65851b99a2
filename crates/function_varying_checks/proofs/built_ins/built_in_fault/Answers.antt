use Rattle.std.proofs.Common.{subst}
use Rattle.function_varying_checks.specs.Rows.{IsRowFault}
use Rattle.function_varying_checks.specs.View.{context_view}
use Rattle.function_varying_checks.proofs.built_ins.built_in_fault.Goals as goal

pub returns-in-Ok-error_of : goal.returns-in-Ok-error_of
returns-in-Ok-error_of c =
    c.in-Ok-error_of.ensures (subst (λ r. IsRowFault (context_view c.args.context.now) c.args.ty r c.in-Err.fault) c.built_in_row-row.ensures c.in-Err.ensures)
