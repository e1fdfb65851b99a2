use Rattle.std.proofs.Common.{arith}
use Rattle.document_reader.proofs.reading.value_of.Goals as goal

pub returns-in-Ok-clause-value : goal.returns-in-Ok-clause-value
returns-in-Ok-clause-value c = record { short = omega arith; utf8 = c.in-Ok.ensures.ok.0; value_is = c.in-Ok.ensures.ok.1 }
