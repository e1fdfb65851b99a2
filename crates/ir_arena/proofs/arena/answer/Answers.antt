use Rattle.std.proofs.Common.{refl}
use Rattle.std.proofs.lemmas.Fn.{says_at}
use Rattle.ir_arena.proofs.arena.answer.Goals as goal

pub returns : goal.returns
returns g c = says_at g.F.Fn c.fun.ensures refl
