use Rattle.std.proofs.Common.{rules}
use Rattle.module_expression_checks.proofs.exchanges.exchanged_value.Goals as goal

pub returns-in-Some : goal.returns-in-Some
returns-in-Some c = λ of. (let h = c.exchanged_in.ensures of in search rules)
