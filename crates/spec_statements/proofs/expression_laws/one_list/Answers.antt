use Rattle.spec_statements.proofs.Forms.{one_list as one}
use Rattle.spec_statements.proofs.expression_laws.one_list.Goals as goal

pub returns : goal.returns
returns c = one
