use Rattle.std.proofs.Common.{ℕ, Option, ap}
use Rattle.std.specs.Prelude.{unwrap_or}
use Rattle.spec_interface.proofs.uses.counted.Goals as goal

pub returns-in-Some : goal.returns-in-Some
returns-in-Some c = ap (λ (o : Option ℕ). unwrap_or o c.args.ty) c.in-Some.ensures

pub returns-in-None : goal.returns-in-None
returns-in-None c = ap (λ (o : Option ℕ). unwrap_or o c.args.ty) c.in-None.ensures
