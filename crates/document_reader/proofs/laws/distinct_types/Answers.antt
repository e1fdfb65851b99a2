use Rattle.document_reader.proofs.laws.distinct_types.Goals as goal

pub returns : goal.returns
returns c = λ bytes d r. r.distinct
