use Rattle.std.proofs.Common.{arith}
use Rattle.module_steps.proofs.Accepted.{known_from}
use Rattle.module_steps.proofs.validate.validate_next.Goals as goal

pub validate_type-requires-clause-known : goal.validate_type-requires-clause-known
validate_type-requires-clause-known c = known_from _ c.args.ty c.requires.back c.requires.held (omega (arith, c.requires.all, c.requires.within)) c.requires.accepted
