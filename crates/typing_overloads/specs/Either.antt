-- The rules of a set of either representation.
use Rattle.std.specs.Prelude.{List}
use Rattle.typing_rules.specs.declared.rules.Rule.{Rule}
use Rattle.typing_overloads.specs.declared.any.AnyOverloadSet as any
use Rattle.typing_overloads.specs.declared.any.AnyOverloadSet.TheVariants as which

abbrev pub any_rules : any.AnyOverloadSet → List Rule
any_rules (which.List l) = l
any_rules (which.Regular r) = r
