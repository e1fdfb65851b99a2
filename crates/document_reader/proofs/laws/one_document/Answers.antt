use Rattle.document_reader.proofs.Seam.{one_document_lem}
use Rattle.document_reader.proofs.laws.one_document.Goals as goal

pub returns : goal.returns
returns c = one_document_lem
