-- What an explanation says about a module, a document and bytes: the lines of a valid module, and the error of an invalid
-- one, or of bytes that are not a document. The error's condition holds.
use Rattle.std.specs.Prelude.{◌≡◌, ◌≢◌, ◌++◌, ℕ, Bool, false, List, []}
use Rattle.document_reader.specs.judged.Form.{Reads}
use Rattle.document_reader.specs.judged.Plain.{PlainDocument}
use Rattle.document_reader.specs.found.Reasons.{IsReason}
use Rattle.document_reader.specs.declared.error.DocumentError.TheVariants as unread
use Rattle.shader_check.specs.found.Examined.{ValidationError}
use Rattle.check_explanation.specs.declared.lines.Lines.{Lines}
use Rattle.check_explanation.specs.declared.lines.Requested.{Requested}
use Rattle.check_explanation.specs.Lines.{CanReport, ListsAsRequested, listed_of, reported_of}
use Rattle.check_explanation.specs.declared.explanation.Explanation.{Explanation}
use Rattle.check_explanation.specs.declared.explanation.Explanation.TheVariants.{NoDocument, Accepted, Refused}
use Rattle.ir_items.specs.judged.Plain.{PlainModule}
use Rattle.judgement.specs.judged.Steps.{IsPrepared}
use Rattle.shader_check.specs.found.Examined.{IsValidationFault}
use Rattle.shader_check.specs.declared.examined.Examined.{Examined}
use Rattle.shader_check.specs.declared.examined.Examined.TheVariants as examined

abbrev pub CanReportIn : PlainModule → Examined → Type 0
CanReportIn m (examined.Accepted strict info) = CanReport m info
CanReportIn m (examined.Refused e) = Unit {0}

-- the lines of an explanation
abbrev pub lines_of : Explanation → List ℕ
lines_of (NoDocument error hint) = []
lines_of (Accepted strict lines names) = reported_of lines ++ listed_of lines
lines_of (Refused error item) = []

-- for a module with this finding: the requested lines if it is valid, else its error
abbrev pub ExplainsModule : (requested : Requested) → PlainModule → Examined → Explanation → Type 0
ExplainsModule requested m x (NoDocument error hint) = ⊥
ExplainsModule requested m x (Accepted strict lines names) = ListsAsRequested requested m lines
ExplainsModule requested m x (Refused error item) = x ≡ examined.Refused error

-- the explanation of a valid module
abbrev pub IsAccepted : (requested : Requested) → PlainModule → Bool → Explanation → Type 0
IsAccepted requested m strict (NoDocument error hint) = ⊥
IsAccepted requested m strict (Accepted found lines names) = (found ≡ strict) × ListsAsRequested requested m lines
IsAccepted requested m strict (Refused error item) = ⊥

-- They are those of the document's module, with missing returns inserted if requested.
pub record AreListedIn (requested : Requested) (d : PlainDocument) (lines : Lines) : Type 0 where
  pub judged : PlainModule
  pub prepared : IsPrepared d.returns d.content judged
  pub are : ListsAsRequested requested judged lines

-- It is an error of the document's module, with missing returns inserted if requested.
pub record IsWrongIn (d : PlainDocument) (error : ValidationError) : Type 0 where
  pub judged : PlainModule
  pub prepared : IsPrepared d.returns d.content judged
  pub fault : IsValidationFault d.settings false judged error

abbrev pub ExplainsDocument : (requested : Requested) → PlainDocument → Explanation → Type 0
ExplainsDocument requested d (NoDocument error hint) = ⊥
ExplainsDocument requested d (Accepted strict lines names) = AreListedIn requested d lines
ExplainsDocument requested d (Refused error item) = IsWrongIn d error

-- They are those of the module of the document in the bytes, with missing returns inserted if requested.
pub record AreListed (requested : Requested) (bytes : List ℕ) (lines : Lines) : Type 0 where
  pub document : PlainDocument
  pub reads : Reads bytes document
  pub judged : PlainModule
  pub prepared : IsPrepared document.returns document.content judged
  pub are : ListsAsRequested requested judged lines

-- It is an error of the module of the document in the bytes.
pub record IsWrongWith (bytes : List ℕ) (error : ValidationError) : Type 0 where
  pub document : PlainDocument
  pub reads : Reads bytes document
  pub wrong : IsWrongIn document error

-- for bytes that are not a document, a reason for it that is not out of memory
abbrev pub ExplainsBytes : (requested : Requested) → (bytes : List ℕ) → Explanation → Type 0
ExplainsBytes requested bytes (NoDocument error hint) = IsReason bytes error × (error ≢ unread.Memory)
ExplainsBytes requested bytes (Accepted strict lines names) = AreListed requested bytes lines
ExplainsBytes requested bytes (Refused error item) = IsWrongWith bytes error
