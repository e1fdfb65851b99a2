-- The result for a SPIR-V module is that for a document, and a valid one is sound with its report. Whether the document means
-- the same as the module is not stated.
use Rattle.std.specs.Prelude.{◌≡◌, ◌++◌, ℕ, Bool, List, string_bytes}
use Rattle.ir_items.specs.judged.Plain.{PlainModule}
use Rattle.document_reader.specs.judged.Plain.{PlainDocument}
use Rattle.judgement.specs.judged.Reports.{IsReport}
use Rattle.judgement.specs.judged.Steps.{IsFinding, IsPrepared}
use Rattle.judgement.specs.judged.Text.{text_of}
use Rattle.judgement.specs.declared.finding.Finding.{Finding}
use Rattle.judgement.specs.declared.finding.Finding.TheVariants as findings
use Rattle.judgement_laws.specs.judged.Sound.{AreChecked, ModuleIsSound}
pub use Rattle.shader_check.specs.found.Judgements.{FindsIn, IsJudgementOf, IsReportedOf}
pub use Rattle.shader_check.specs.declared.reported.Judgement.{Judgement}
use Rattle.check_explanation.specs.Explained.{finding_of}
use Rattle.check_explanation.specs.Listed.{ExplainsDocument}
use Rattle.check_explanation.specs.declared.explanation.Explanation.{Explanation}
use Rattle.check_explanation.specs.declared.lines.Requested.{Requested}
use Rattle.check_explanation.specs.declared.spirv.SpirvVerdict.{SpirvVerdict}
use Rattle.check_explanation.specs.declared.spirv.SpirvVerdict.TheVariants.{Accepted, Refused, Unread}

-- this is the finding, and the report, of some document whose settings have the checks for layouts, bodies and expressions
pub record IsOfSome (j : Judgement) : Type 0 where
  pub document : PlainDocument
  pub checked : AreChecked document.settings
  pub is : IsJudgementOf document j

abbrev pub verdict_of : Finding → SpirvVerdict
verdict_of (findings.Accepted strict) = Accepted
verdict_of findings.RefusedDocument = Refused
verdict_of findings.RefusedHandles = Refused
verdict_of (findings.Refused step index) = Refused

-- The text is that of the finding for some document, with its report, and the verdict is that of the finding.
pub record IsTextOfSome (verdict : SpirvVerdict) (text : List ℕ) : Type 0 where
  pub judgement : Judgement
  pub of : IsOfSome judgement
  pub verdict_is : verdict ≡ verdict_of judgement.finding
  pub text_is : text ≡ text_of judgement.finding ++ string_bytes judgement.report

-- The guarantees for a valid SPIR-V module.
pub record IsSoundText (text : List ℕ) : Type 0 where
  -- The document that it is translated to,
  pub document : PlainDocument
  -- whose module, with missing returns inserted if requested, is validated
  pub judged : PlainModule
  pub prepared : IsPrepared document.returns document.content judged
  -- and valid, with strict scope checked or not.
  pub strict : Bool
  pub accepted : IsFinding document.settings judged (findings.Accepted strict)
  -- The text is `accepted` or `accepted strict`, and the report of the module.
  pub report : List ℕ
  pub reports : IsReport judged report
  pub text_is : text ≡ text_of (findings.Accepted strict) ++ report
  -- Each buffer is well laid out, and every run of each entry point is safe, with what it references and samples in this report.
  pub sound : ModuleIsSound document.returns document.settings judged report

-- nothing is stated for a module that was not read
abbrev pub IsAnswered : SpirvVerdict → (text : List ℕ) → Type 0
IsAnswered Accepted text = IsTextOfSome Accepted text
IsAnswered Refused text = IsTextOfSome Refused text
IsAnswered Unread text = Unit {0}

-- This is the finding for this document, whose module has the requested lines, or this error.
pub record IsExplainedOf (requested : Requested) (d : PlainDocument) (e : Explanation) : Type 0 where
  pub judged : FindsIn d (finding_of e)
  pub explains : ExplainsDocument requested d e

-- This is the finding for some such document, whose module has the requested lines, or this error.
pub record IsExplained (requested : Requested) (e : Explanation) : Type 0 where
  pub document : PlainDocument
  pub checked : AreChecked document.settings
  pub judged : FindsIn document (finding_of e)
  pub explains : ExplainsDocument requested document e
