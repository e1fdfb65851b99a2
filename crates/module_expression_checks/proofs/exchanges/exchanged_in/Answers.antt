use Rattle.std.proofs.Common.{rules}
use Rattle.module_expression_checks.proofs.exchanges.exchanged_in.Goals as goal

pub returns-in-Struct : goal.returns-in-Struct
returns-in-Struct c = λ of. (let h = c.exchanged_among.ensures of in search rules)
