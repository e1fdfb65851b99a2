use Rattle.std.proofs.Common.{◌∙◌, ap, length, max}
use Rattle.typing_rules.specs.found.Members.{scalars_in, sizes_in}
use Rattle.typing_overloads.specs.Products.{rules_of}
use Rattle.typing_overloads.proofs.Arity.{most_found, none_found}
use Rattle.typing_overloads.proofs.product.Product.max_arity.Goals as goal

pub returns-in-Some : goal.returns-in-Some
returns-in-Some c =
    c.max.ensures ∙ ap (λ xs. max c.args.found (length xs)) c.required_by.ensures
    ∙ most_found c.args.self.pattern (scalars_in c.args.self.scalars.0) (sizes_in c.args.self.sizes.0) c.args.found c.in-Some.field-0 c.in-Some.ensures

pub returns-in-None : goal.returns-in-None
returns-in-None c = none_found _ c.args.found (rules_of c.args.self) c.in-None.ensures
