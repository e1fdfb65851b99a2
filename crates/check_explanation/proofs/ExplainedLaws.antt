-- An explanation matches the validation of the bytes.
use Rattle.std.proofs.Common.{◌≡◌, ◌≢◌, ℕ, Bool, List, Ok, Err, Result, IfOk, ap, sym, subst}
use Rattle.std.specs.declared.alloc.AllocError.{AllocError}
use Rattle.document_reader.specs.declared.error.DocumentError.{DocumentError}
use Rattle.document_reader.specs.declared.error.DocumentError.TheVariants as unread
use Rattle.judgement.specs.declared.finding.Finding.{Finding}
use Rattle.judgement.specs.declared.finding.Finding.TheVariants as findings
use Rattle.document_reader.specs.judged.Plain.{PlainDocument}
use Rattle.document_reader.specs.judged.Form.{Reads}
use Rattle.shader_check.specs.found.Judgements.{Judged, FindsIn}
use Rattle.shader_check.proofs.JudgedLaws.{judged_document, judged_if, kept_in}
use Rattle.check_explanation.specs.declared.lines.Requested.{Requested}
use Rattle.check_explanation.specs.declared.explanation.Explanation.{Explanation}
use Rattle.check_explanation.specs.Explained.{IsMisread, IsRefusedWith, finding_of}
use Rattle.check_explanation.specs.Listed.{CanReportIn, ExplainsBytes, ExplainsDocument, ExplainsModule, IsAccepted}
use Rattle.check_explanation.specs.declared.explanation.Explanation.TheVariants.{NoDocument, Accepted, Refused}
use Rattle.ir_items.specs.judged.Plain.{PlainModule}
use Rattle.judgement.specs.judged.Steps.{IsPrepared}
use Rattle.shader_check.specs.found.Examined.{ValidationError}
use Rattle.document_reader.specs.found.Reasons.{IsReason}
use Rattle.shader_check.specs.found.Examined.{IsExamined, IsExaminedDocument, finding_in, refused_by}
use Rattle.shader_check.specs.declared.examined.Examined.{Examined}
use Rattle.shader_check.specs.declared.examined.Examined.TheVariants as examined
use Rattle.judgement.specs.judged.ModuleSteps.{layout}
use Rattle.spirv_words.specs.declared.error.SpirvError.{SpirvError}
use Rattle.judgement_laws.specs.judged.Sound.{AreChecked}
use Rattle.check_explanation.specs.Answered.{IsExplained, IsExplainedOf}
use Rattle.check_explanation.specs.declared.traced.Traced.{Traced}

-- the result for its module with the error is that for the document
pub found_if : (d : PlainDocument) (m : PlainModule) (x : Examined) (r : Result Explanation AllocError) → IsExaminedDocument d m x → IfOk r (λ e. finding_of e ≡ finding_in x)
    → IfOk r (λ e. FindsIn d (finding_of e))
found_if d m x (Ok e) h is = subst (FindsIn d) (sym is) (judged_document d m x h)
found_if d m x (Err a) h is = tt

-- the finding for a valid module
pub accepted_if : (requested : Requested) (m : PlainModule) (strict : Bool) (r : Result Explanation AllocError) → IfOk r (IsAccepted requested m strict) → IfOk r (λ e. finding_of e ≡ findings.Accepted strict)
accepted_if requested m strict (Ok (Accepted found lines names)) h = ap findings.Accepted h.0
accepted_if requested m strict (Ok (NoDocument _ _)) h = elim h [ ]
accepted_if requested m strict (Ok (Refused _ _)) h = elim h [ ]
accepted_if requested m strict (Err a) h = tt

pub accepted_explains : (requested : Requested) (m : PlainModule) (x : Examined) (strict : Bool) (r : Result Explanation AllocError) → IfOk r (IsAccepted requested m strict)
    → IfOk r (ExplainsModule requested m x)
accepted_explains requested m x strict (Ok (Accepted found lines names)) h = h.1
accepted_explains requested m x strict (Ok (NoDocument _ _)) h = elim h [ ]
accepted_explains requested m x strict (Ok (Refused _ _)) h = elim h [ ]
accepted_explains requested m x strict (Err a) h = tt

-- the finding for an invalid module, with its error
pub refused_if : (error : ValidationError) (r : Result Explanation AllocError) → IfOk r (IsRefusedWith error) → IfOk r (λ e. finding_of e ≡ refused_by error)
refused_if error (Ok (Refused found item)) h = ap refused_by h
refused_if error (Ok (NoDocument _ _)) h = elim h [ ]
refused_if error (Ok (Accepted _ _ _)) h = elim h [ ]
refused_if error (Err a) h = tt

pub refused_explains : (requested : Requested) (m : PlainModule) (error : ValidationError) (r : Result Explanation AllocError) → IfOk r (IsRefusedWith error)
    → IfOk r (ExplainsModule requested m (examined.Refused error))
refused_explains requested m error (Ok (Refused found item)) h = ap examined.Refused (sym h)
refused_explains requested m error (Ok (NoDocument _ _)) h = elim h [ ]
refused_explains requested m error (Ok (Accepted _ _ _)) h = elim h [ ]
refused_explains requested m error (Err a) h = tt

-- the finding for bytes that are not a document, with a reason
pub misread_if : (bytes : List ℕ) (error : DocumentError) (r : Result Explanation AllocError) → (error ≢ unread.Memory → (d : PlainDocument) → ¬ Reads bytes d) → IfOk r (IsMisread error)
    → IfOk r (λ e. Judged bytes (finding_of e))
misread_if bytes error (Ok (NoDocument found hint)) none h = none h.1
misread_if bytes error (Ok (Accepted _ _ _)) none h = elim h [ ]
misread_if bytes error (Ok (Refused _ _)) none h = elim h [ ]
misread_if bytes error (Err a) none h = tt

pub misread_explains : (requested : Requested) (bytes : List ℕ) (error : DocumentError) (r : Result Explanation AllocError) → IsReason bytes error → IfOk r (IsMisread error)
    → IfOk r (ExplainsBytes requested bytes)
misread_explains requested bytes error (Ok (NoDocument found hint)) reason h = subst (λ x. IsReason bytes x × (x ≢ unread.Memory)) (sym h.0) (reason, h.1)
misread_explains requested bytes error (Ok (Accepted _ _ _)) reason h = elim h [ ]
misread_explains requested bytes error (Ok (Refused _ _)) reason h = elim h [ ]
misread_explains requested bytes error (Err a) reason h = tt

-- the result for the document is that for its bytes
pub explained_if : (bytes : List ℕ) (d : PlainDocument) (r : Result Explanation AllocError) → Reads bytes d → IfOk r (λ e. FindsIn d (finding_of e))
    → IfOk r (λ e. Judged bytes (finding_of e))
explained_if bytes d (Ok e) reads h = judged_if bytes d (Ok (finding_of e)) reads h
explained_if bytes d (Err a) reads h = tt

-- the buffers and the report of a valid module can be listed
pub can_report : (d : PlainDocument) (m : PlainModule) (x : Examined) → IsExaminedDocument d m x → CanReportIn m x
can_report d m (examined.Accepted strict info) h = record {
  handles = h.examined.0.ok.handles;
  laid = (h.examined.0.ok.steps layout).each;
  layouts = record { layouts = h.examined.0.layouts; all = h.examined.0.laid };
  reported = kept_in d m (examined.Accepted strict info) h;
}
can_report d m (examined.Refused e) h = tt

-- the explanation of its module is that of the document
pub explained_in : (requested : Requested) (d : PlainDocument) (m : PlainModule) (x : Examined) (r : Result Explanation AllocError) → IsExaminedDocument d m x → IfOk r (ExplainsModule requested m x)
    → IfOk r (ExplainsDocument requested d)
explained_in requested d m x (Ok (NoDocument error hint)) of h = h
explained_in requested d m x (Ok (Accepted strict lines names)) of h = record { judged = m; prepared = of.prepared; are = h }
explained_in requested d m x (Ok (Refused error item)) of h = record { judged = m; prepared = of.prepared; fault = subst (IsExamined d.settings m) h of.examined }
explained_in requested d m x (Err a) of h = tt

-- and that of its bytes
pub explained_on : (requested : Requested) (bytes : List ℕ) (d : PlainDocument) (r : Result Explanation AllocError) → Reads bytes d → IfOk r (ExplainsDocument requested d)
    → IfOk r (ExplainsBytes requested bytes)
explained_on requested bytes d (Ok (NoDocument error hint)) reads h = elim h [ ]
explained_on requested bytes d (Ok (Accepted strict lines names)) reads h = record { document = d; reads = reads; judged = h.judged; prepared = h.prepared; are = h.are }
explained_on requested bytes d (Ok (Refused error item)) reads h = record { document = d; reads = reads; wrong = h }
explained_on requested bytes d (Err a) reads h = tt

-- the explanation is unchanged with the instruction it comes from
pub traced_if : (requested : Requested) (d : PlainDocument) (e : Explanation) (r : Result Traced SpirvError) → IsExplainedOf requested d e → IfOk r (λ t. t.explanation ≡ e)
    → IfOk r (λ t. IsExplainedOf requested d t.explanation)
traced_if requested d e (Ok t) h is = subst (IsExplainedOf requested d) (sym is) h
traced_if requested d e (Err a) h is = tt

-- the explanation of a document under such checks is one of some such document
pub explained_under : (requested : Requested) (d : PlainDocument) (r : Result Traced SpirvError) → AreChecked d.settings → IfOk r (λ t. IsExplainedOf requested d t.explanation)
    → IfOk r (λ t. IsExplained requested t.explanation)
explained_under requested d (Ok t) checked h = record { document = d; checked = checked; judged = h.judged; explains = h.explains }
explained_under requested d (Err a) checked h = tt
