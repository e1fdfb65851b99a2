use Rattle.std.proofs.Common.{refl}
use Rattle.std.proofs.lemmas.Fn.{says_at_two}
use Rattle.ir_arena.proofs.arena.relate.Goals as goal

pub returns : goal.returns
returns g c = says_at_two g.F.Fn c.fun.ensures refl
