-- The explanation of a document matches its validation result.
use Rattle.std.specs.Prelude.{◌≡◌, ◌≢◌}
use Rattle.document_reader.specs.declared.error.DocumentError.{DocumentError}
use Rattle.document_reader.specs.declared.error.DocumentError.TheVariants as unread
use Rattle.judgement.specs.declared.finding.Finding.{Finding}
use Rattle.judgement.specs.declared.finding.Finding.TheVariants as findings
use Rattle.shader_check.specs.found.Examined.{ValidationError}
use Rattle.shader_check.specs.found.Examined.{refused_by}
use Rattle.check_explanation.specs.declared.explanation.Explanation.{Explanation}
use Rattle.check_explanation.specs.declared.explanation.Explanation.TheVariants.{NoDocument, Accepted, Refused}

-- the finding that is explained
abbrev pub finding_of : Explanation → Finding
finding_of (NoDocument error hint) = findings.RefusedDocument
finding_of (Accepted strict lines names) = findings.Accepted strict
finding_of (Refused error item) = refused_by error

-- the explanation of bytes that are not a document, for this reason, which is not out of memory
abbrev pub IsMisread : DocumentError → Explanation → Type 0
IsMisread error (NoDocument found hint) = (found ≡ error) × (error ≢ unread.Memory)
IsMisread error (Accepted strict lines names) = ⊥
IsMisread error (Refused found item) = ⊥

-- the explanation of a module that is invalid with this error
abbrev pub IsRefusedWith : ValidationError → Explanation → Type 0
IsRefusedWith error (NoDocument found hint) = ⊥
IsRefusedWith error (Accepted strict lines names) = ⊥
IsRefusedWith error (Refused found item) = found ≡ error
