-- The explanation of a document that was read from WGSL.
use Rattle.std.proofs.Common.{◌≡◌, Ok, Err, Result, IfOk, sym, subst}
use Rattle.document_reader.specs.judged.Plain.{PlainDocument}
use Rattle.wgsl_reader.specs.Checks.{MakesSixChecks}
use Rattle.wgsl_text.specs.declared.error.WgslError.{WgslError}
use Rattle.check_explanation.specs.Answered.{IsExplained, IsExplainedOf}
use Rattle.check_explanation.specs.declared.explanation.Explanation.{Explanation}
use Rattle.check_explanation.specs.declared.lines.Requested.{Requested}
use Rattle.check_explanation.proofs.Soundness.{checked}
use Rattle.check_wgsl.specs.declared.explained.Diagnosed.{Diagnosed}

-- the explanation is unchanged with the part of the text
pub located_if : (requested : Requested) (d : PlainDocument) (e : Explanation) (found : Diagnosed) → IsExplainedOf requested d e → found.explanation ≡ e → IsExplainedOf requested d found.explanation
located_if requested d e found h is = subst (IsExplainedOf requested d) (sym is) h

-- the explanation of a document with the six checks is one of some such document
pub explained_under : (requested : Requested) (d : PlainDocument) (r : Result Diagnosed WgslError) → MakesSixChecks d.settings.flags → IfOk r (λ t. IsExplainedOf requested d t.explanation)
    → IfOk r (λ t. IsExplained requested t.explanation)
explained_under requested d (Ok t) six h = record { document = d; checked = checked d.settings six; judged = h.judged; explains = h.explains }
explained_under requested d (Err a) six h = tt
