use Rattle.typing_rules.specs.found.Members.{sizes_in}
use Rattle.typing_overloads.proofs.Kept.{concrete_left}
use Rattle.typing_overloads.proofs.product.Product.concrete_only.Goals as goal

pub returns : goal.returns
returns c = concrete_left c.args.self.pattern c.args.self.scalars.0 c.concrete_scalars.result.0 (sizes_in c.args.self.sizes.0) c.concrete_scalars.ensures
