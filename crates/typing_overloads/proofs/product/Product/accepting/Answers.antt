use Rattle.ir_types.specs.judged.Plain.{inner_view}
use Rattle.typing_rules.specs.found.Members.{scalars_in, sizes_in}
use Rattle.typing_overloads.specs.Products.{rules_of}
use Rattle.typing_overloads.proofs.Kept.{accepted, no_argument, no_value}
use Rattle.typing_overloads.proofs.product.Product.accepting.Goals as goal

pub returns-in-Some-required_at : goal.returns-in-Some-required_at
returns-in-Some-required_at c =
    accepted c.args.place (inner_view c.args.given.now) c.in-Some.given c.args.self.pattern c.in-Some-required_at.asked c.in-Some.ensures c.in-Some-required_at.ensures
    c.args.self.scalars.0 c.args.self.sizes.0 _ _ c.taking.ensures c.taking-in-Some-required_at.ensures

pub returns-in-None-required_at : goal.returns-in-None-required_at
returns-in-None-required_at c =
    no_argument c.args.place (inner_view c.args.given.now) c.in-Some.given c.args.self.pattern c.in-Some.ensures c.in-None-required_at.ensures
    (scalars_in c.args.self.scalars.0) (sizes_in c.args.self.sizes.0)

pub returns-in-None : goal.returns-in-None
returns-in-None c = no_value c.args.place (inner_view c.args.given.now) (rules_of c.args.self) c.in-None.ensures
