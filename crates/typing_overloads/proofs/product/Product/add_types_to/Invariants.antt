use Rattle.std.proofs.Common.{◌≡◌, ◌++◌}
use Rattle.typing_rules.specs.judged.MathTable.{rules_over}
use Rattle.typing_rules.specs.found.Members.{scalars_in}
use Rattle.typing_overloads.specs.Products.{rules_of}
use Rattle.typing_overloads.specs.Sets.{arguments_at}
use Rattle.typing_overloads.proofs.product.Product.add_types_to.Given as goal

abbrev pub invariant-loop-size : goal.invariant-loop-size
invariant-loop-size l =
    l.types.items ++ arguments_at l.place (rules_over l.self.pattern (scalars_in l.self.scalars.0) l.size-iterator)
    ≡ l.initial.types.items ++ arguments_at l.place (rules_of l.self)
