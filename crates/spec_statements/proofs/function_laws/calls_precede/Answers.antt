use Rattle.spec_statements.proofs.CallLaws as law
use Rattle.spec_statements.proofs.function_laws.calls_precede.Goals as goal

pub returns : goal.returns
returns c = law.calls_precede
