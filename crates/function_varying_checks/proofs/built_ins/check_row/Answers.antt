use Rattle.std.proofs.Common.{refl}
use Rattle.function_varying_checks.proofs.built_ins.check_row.Goals as goal

pub returns : goal.returns
returns c = record {
  capable = c.in-Ok.ensures c.args.ty;
  stands = c.if-not-occurs_at.ensures.0 refl;
  besides = c.in-Ok-check_exception.ensures;
  typed = c.if-not-is_of_type.ensures.0 refl;
}
