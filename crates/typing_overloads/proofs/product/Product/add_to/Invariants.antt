use Rattle.std.proofs.Common.{◌≡◌, ◌++◌}
use Rattle.typing_rules.specs.judged.MathTable.{rules_over}
use Rattle.typing_rules.specs.found.Members.{scalars_in}
use Rattle.typing_overloads.specs.Products.{rules_of}
use Rattle.typing_overloads.proofs.product.Product.add_to.Given as goal

abbrev pub invariant-loop-size : goal.invariant-loop-size
invariant-loop-size l = l.rules.items ++ rules_over l.self.pattern (scalars_in l.self.scalars.0) l.size-iterator ≡ l.initial.rules.items ++ rules_of l.self
