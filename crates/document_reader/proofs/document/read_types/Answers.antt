use Rattle.document_reader.proofs.Distinct.{refused_types}
use Rattle.document_reader.proofs.document.read_types.Goals as goal

pub returns-in-Err-clause-refused : goal.returns-in-Err-clause-refused
returns-in-Err-clause-refused c = λ other ts found. refused_types _ (c.in-Err.ensures.refused (λ e. other (c.at.ensures.1 e))) ts found
