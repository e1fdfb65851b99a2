use Rattle.std.proofs.Common.{◌≡◌, ◌++◌}
use Rattle.typing_overloads.specs.Products.{row}
use Rattle.typing_rules.specs.found.Members.{scalars_in}
use Rattle.typing_overloads.proofs.product.add_row.Given as goal

abbrev pub invariant-loop-scalar : goal.invariant-loop-scalar
invariant-loop-scalar l = l.rules.items ++ row l.pattern l.scalar-iterator l.size ≡ l.initial.rules.items ++ row l.pattern (scalars_in l.fn.scalars.0) l.size
