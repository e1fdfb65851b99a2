use Rattle.std.proofs.Common.{◌≡◌, ◌++◌}
use Rattle.typing_overloads.specs.Products.{row}
use Rattle.typing_rules.specs.found.Members.{scalars_in}
use Rattle.typing_overloads.specs.Sets.{arguments_at}
use Rattle.typing_overloads.proofs.product.add_types.Given as goal

abbrev pub invariant-loop-scalar : goal.invariant-loop-scalar
invariant-loop-scalar l =
    l.types.items ++ arguments_at l.place (row l.pattern l.scalar-iterator l.size)
    ≡ l.initial.types.items ++ arguments_at l.place (row l.pattern (scalars_in l.fn.scalars.0) l.size)
