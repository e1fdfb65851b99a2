use Rattle.std.proofs.Common.{sym, true≢false}
use Rattle.spec_interface.proofs.Places.{inner_found, inner_missing}
use Rattle.spec_interface.proofs.lookups.inner_at.Goals as goal

pub returns-in-Ok : goal.returns-in-Ok
returns-in-Ok c = inner_found c.args.«module».now.types c.args.ty c.in-Ok.found.now c.in-Ok.ensures.value

pub returns-in-Err : goal.returns-in-Err
returns-in-Err c = inner_missing c.args.«module».now.types c.args.ty (λ lt. true≢false (sym (c.in-Err.ensures.found.1 lt)))
