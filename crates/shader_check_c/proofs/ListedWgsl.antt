-- The listing for a WGSL text.
use Rattle.std.proofs.Common.{◌≡◌, ℕ, List, ◌++◌, Option, Some, None, Result, Ok, IfOk, IfSome, String, Global, string_bytes, subst, ◌∙◌}
use Rattle.std.specs.declared.alloc.AllocError.{AllocError}
use Rattle.judgement.specs.judged.Text.{text_of}
use Rattle.check_explanation.specs.Answered.{IsExplained}
use Rattle.check_explanation.specs.Explained.{finding_of}
use Rattle.check_explanation.specs.Listed.{lines_of}
use Rattle.check_explanation.specs.Objects.{IsObjectText}
use Rattle.check_explanation.specs.declared.explanation.Explanation.{Explanation}
use Rattle.check_explanation.specs.declared.lines.Requested.TheVariants.{Leaves, Report}
use Rattle.check_wgsl.specs.Answered.{verdict_of}
use Rattle.check_wgsl.specs.declared.judged.WgslAnswer.{WgslAnswer}
use Rattle.check_wgsl.specs.declared.judged.WgslVerdict.{WgslVerdict}
use Rattle.check_wgsl.specs.declared.judged.WgslVerdict.TheVariants.{Accepted, Refused, Unread}
use Rattle.shader_check_c.specs.Wgsl.{IsListingOfSome, IsListingOfWgsl, IsObjectOfSome, IsObjectOfWgsl}

listing_as : (verdict : WgslVerdict) (text : List ℕ) → IsListingOfSome verdict text → IsListingOfWgsl verdict text
listing_as Accepted text h = h
listing_as Refused text h = h
listing_as Unread text h = tt

object_as : (verdict : WgslVerdict) (text : List ℕ) → IsObjectOfSome verdict text → IsObjectOfWgsl verdict text
object_as Accepted text h = h
object_as Refused text h = h
object_as Unread text h = tt

-- the result with the listing of the finding
pub listing_of_wgsl : (e : Explanation) → IsExplained Leaves e → (verdict : WgslVerdict) (listed : Result (String Global) AllocError) (answer : Option WgslAnswer) → verdict ≡ verdict_of (finding_of e) → IfOk listed (λ t. string_bytes t ≡ text_of (finding_of e) ++ lines_of e) → IfSome answer (λ a. (a.verdict ≡ verdict) × (listed ≡ Ok a.text)) → IfSome answer (λ a. IsListingOfWgsl a.verdict (string_bytes a.text))
listing_of_wgsl e explained verdict listed None is of has = tt
listing_of_wgsl e explained verdict listed (Some a) is of has =
    listing_as a.verdict (string_bytes a.text) (record {
      explanation = e;
      explained = explained;
      verdict_is = has.0 ∙ is;
      text_is = subst (λ r. IfOk r (λ t. string_bytes t ≡ text_of (finding_of e) ++ lines_of e)) has.1 of;
    })

-- the result with the object of the finding
pub object_of_wgsl : (e : Explanation) → IsExplained Report e → (verdict : WgslVerdict) (object : Result (String Global) AllocError) (answer : Option WgslAnswer) → verdict ≡ verdict_of (finding_of e) → IfOk object (λ t. IsObjectText (finding_of e) (string_bytes t)) → IfSome answer (λ a. (a.verdict ≡ verdict) × (object ≡ Ok a.text)) → IfSome answer (λ a. IsObjectOfWgsl a.verdict (string_bytes a.text))
object_of_wgsl e explained verdict object None is of has = tt
object_of_wgsl e explained verdict object (Some a) is of has =
    object_as a.verdict (string_bytes a.text) (record {
      explanation = e;
      explained = explained;
      verdict_is = has.0 ∙ is;
      object = subst (λ r. IfOk r (λ t. IsObjectText (finding_of e) (string_bytes t))) has.1 of;
    })
