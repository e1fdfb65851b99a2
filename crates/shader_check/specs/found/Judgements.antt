-- The results and the reports for a document and for bytes, by the finding.
use Rattle.std.specs.Prelude.{◌≡◌, ℕ, List, [], string_bytes}
use Rattle.document_reader.specs.judged.Plain.{PlainDocument}
use Rattle.document_reader.specs.judged.Form.{Reads}
use Rattle.ir_items.specs.judged.Plain.{PlainModule}
use Rattle.judgement.specs.judged.Reports.{IsReport}
use Rattle.judgement.specs.judged.Steps.{IsFinding, IsPrepared}
use Rattle.judgement.specs.declared.finding.Finding.{Finding}
use Rattle.judgement.specs.declared.finding.Finding.TheVariants as finding
use Rattle.shader_check.specs.declared.reported.Judgement.{Judgement}

-- This is the finding for the document's module, with missing returns inserted if requested.
pub record FindsIn (d : PlainDocument) (f : Finding) : Type 0 where
  pub judged : PlainModule
  pub prepared : IsPrepared d.returns d.content judged
  pub finding : IsFinding d.settings judged f

-- It is the report of the document's module, with missing returns inserted if requested.
pub record IsReportOn (d : PlainDocument) (report : List ℕ) : Type 0 where
  pub judged : PlainModule
  pub prepared : IsPrepared d.returns d.content judged
  pub is : IsReport judged report

-- the text after the line of the finding: empty, or the report if the document is valid
abbrev pub IsReportedOf : PlainDocument → Finding → (behind : List ℕ) → Type 0
IsReportedOf d (finding.Accepted strict) behind = IsReportOn d behind
IsReportedOf d finding.RefusedDocument behind = behind ≡ []
IsReportedOf d finding.RefusedHandles behind = behind ≡ []
IsReportedOf d (finding.Refused step index) behind = behind ≡ []

-- The bytes are a document with this finding.
pub record Finds (bytes : List ℕ) (f : Finding) : Type 0 where
  pub document : PlainDocument
  pub reads : Reads bytes document
  pub found : FindsIn document f

-- the validation result of these bytes
abbrev pub Judged : List ℕ → Finding → Type 0
Judged bytes finding.RefusedDocument = (d : PlainDocument) → ¬ Reads bytes d
Judged bytes (finding.Accepted strict) = Finds bytes (finding.Accepted strict)
Judged bytes finding.RefusedHandles = Finds bytes finding.RefusedHandles
Judged bytes (finding.Refused step index) = Finds bytes (finding.Refused step index)

-- It is the report of the document in the bytes.
pub record IsReportFor (bytes report : List ℕ) : Type 0 where
  pub document : PlainDocument
  pub reads : Reads bytes document
  pub reports : IsReportOn document report

-- the text for bytes after the line of the finding
abbrev pub IsReported : List ℕ → Finding → (behind : List ℕ) → Type 0
IsReported bytes (finding.Accepted strict) behind = IsReportFor bytes behind
IsReported bytes finding.RefusedDocument behind = behind ≡ []
IsReported bytes finding.RefusedHandles behind = behind ≡ []
IsReported bytes (finding.Refused step index) behind = behind ≡ []

-- the finding and the report for the document
pub record IsJudgementOf (d : PlainDocument) (j : Judgement) : Type 0 where
  pub finding : FindsIn d j.finding
  pub told : IsReportedOf d j.finding (string_bytes j.report)

-- the finding and the report for the bytes
pub record IsJudgementOn (bytes : List ℕ) (j : Judgement) : Type 0 where
  pub finding : Judged bytes j.finding
  pub told : IsReported bytes j.finding (string_bytes j.report)
