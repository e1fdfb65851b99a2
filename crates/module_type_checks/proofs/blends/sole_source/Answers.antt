use Rattle.std.proofs.Common.{arith}
use Rattle.module_type_checks.proofs.Sources.{sole_all}
use Rattle.module_type_checks.proofs.blends.sole_source.Goals as goal

pub returns : goal.returns
returns c = sole_all c.args.members.now c.args.blend_src c.loop-place.found c.loop-place.place c.loop-place.invariant (omega arith)
