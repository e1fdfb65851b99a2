use Rattle.spec_statements.proofs.Capable.{more_capabilities as more}
use Rattle.spec_statements.proofs.expression_laws.more_capabilities.Goals as goal

pub returns : goal.returns
returns c = more
