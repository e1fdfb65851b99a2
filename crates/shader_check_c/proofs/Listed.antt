-- The listing for a document, and for a SPIR-V module.
use Rattle.std.proofs.Common.{◌≡◌, ℕ, List, ◌++◌, Option, Some, None, Result, Ok, IfOk, IfSome, String, Global, string_bytes, sym, subst, ◌∙◌}
use Rattle.std.specs.declared.alloc.AllocError.{AllocError}
use Rattle.judgement.specs.judged.Text.{text_of}
use Rattle.judgement.specs.declared.finding.Finding.{Finding}
use Rattle.shader_check.specs.found.Judgements.{Judged}
use Rattle.check_explanation.specs.Answered.{IsExplained, verdict_of}
use Rattle.check_explanation.specs.Explained.{finding_of}
use Rattle.check_explanation.specs.Listed.{ExplainsBytes, lines_of}
use Rattle.check_explanation.specs.Objects.{IsObjectText}
use Rattle.check_explanation.specs.declared.explanation.Explanation.{Explanation}
use Rattle.check_explanation.specs.declared.lines.Requested.TheVariants.{Leaves, Report}
use Rattle.check_explanation.specs.declared.spirv.SpirvAnswer.{SpirvAnswer}
use Rattle.check_explanation.specs.declared.spirv.SpirvVerdict.{SpirvVerdict}
use Rattle.check_explanation.specs.declared.spirv.SpirvVerdict.TheVariants.{Accepted, Refused, Unread}
use Rattle.shader_check_c.specs.Answers.{IsListing, IsListingOfSome, IsListingOfSpirv, IsObjectOfSome, IsObjectOfSpirv}

pub listing : (document : List ℕ) (e : Explanation) (finding : Finding) (text : List ℕ) → finding ≡ finding_of e → Judged document (finding_of e) → ExplainsBytes Leaves document e → text ≡ text_of (finding_of e) ++ lines_of e → IsListing document finding text
listing document e finding text is judged explains listed = record {
  explanation = e;
  finding_is = is;
  judged = subst (λ f. Judged document f) (sym is) judged;
  explains = explains;
  text_is = subst (λ f. text ≡ text_of f ++ lines_of e) (sym is) listed;
}

listing_as : (verdict : SpirvVerdict) (text : List ℕ) → IsListingOfSome verdict text → IsListingOfSpirv verdict text
listing_as Accepted text h = h
listing_as Refused text h = h
listing_as Unread text h = tt

object_as : (verdict : SpirvVerdict) (text : List ℕ) → IsObjectOfSome verdict text → IsObjectOfSpirv verdict text
object_as Accepted text h = h
object_as Refused text h = h
object_as Unread text h = tt

-- the result with the listing of the finding
pub listing_of_spirv : (e : Explanation) → IsExplained Leaves e → (verdict : SpirvVerdict) (listed : Result (String Global) AllocError) (answer : Option SpirvAnswer) → verdict ≡ verdict_of (finding_of e) → IfOk listed (λ t. string_bytes t ≡ text_of (finding_of e) ++ lines_of e) → IfSome answer (λ a. (a.verdict ≡ verdict) × (listed ≡ Ok a.text)) → IfSome answer (λ a. IsListingOfSpirv a.verdict (string_bytes a.text))
listing_of_spirv e explained verdict listed None is of has = tt
listing_of_spirv e explained verdict listed (Some a) is of has =
    listing_as a.verdict (string_bytes a.text) (record {
      explanation = e;
      explained = explained;
      verdict_is = has.0 ∙ is;
      text_is = subst (λ r. IfOk r (λ t. string_bytes t ≡ text_of (finding_of e) ++ lines_of e)) has.1 of;
    })

-- the result with the object of the finding
pub object_of_spirv : (e : Explanation) → IsExplained Report e → (verdict : SpirvVerdict) (object : Result (String Global) AllocError) (answer : Option SpirvAnswer) → verdict ≡ verdict_of (finding_of e) → IfOk object (λ t. IsObjectText (finding_of e) (string_bytes t)) → IfSome answer (λ a. (a.verdict ≡ verdict) × (object ≡ Ok a.text)) → IfSome answer (λ a. IsObjectOfSpirv a.verdict (string_bytes a.text))
object_of_spirv e explained verdict object None is of has = tt
object_of_spirv e explained verdict object (Some a) is of has =
    object_as a.verdict (string_bytes a.text) (record {
      explanation = e;
      explained = explained;
      verdict_is = has.0 ∙ is;
      object = subst (λ r. IfOk r (λ t. IsObjectText (finding_of e) (string_bytes t))) has.1 of;
    })
