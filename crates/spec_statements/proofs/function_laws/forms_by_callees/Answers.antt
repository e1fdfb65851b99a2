use Rattle.spec_statements.proofs.FormLaws as law
use Rattle.spec_statements.proofs.function_laws.forms_by_callees.Goals as goal

pub returns : goal.returns
returns c = law.forms_by_callees
