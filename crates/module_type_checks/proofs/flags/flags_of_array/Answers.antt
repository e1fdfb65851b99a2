use Rattle.std.proofs.Common.{refl}
use Rattle.module_type_checks.proofs.FlagLaws.{array_are}
use Rattle.module_type_checks.proofs.flags.flags_of_array.Goals as goal

pub returns : goal.returns
returns c = array_are c.args.base _ c.array_flags.result.0 c.args.size refl c.array_flags.ensures
