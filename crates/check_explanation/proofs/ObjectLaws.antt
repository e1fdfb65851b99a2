-- The text of the object of an explanation.
use Rattle.std.proofs.Common.{◌≡◌, ◌≢◌, ℕ, Bool, List, Ok, Err, Result, IfOk, String, Global, string_bytes, codes, get_or, Some, ap, ◌∙◌, arith}
use Rattle.std.specs.declared.alloc.AllocError.{AllocError}
use Rattle.serde_json.specs.Data.{Data, Members, object, string}
use Rattle.serde_json.specs.Data.{put as with_member}
use Rattle.serde_json.specs.Find.{get}
use Rattle.serde_json.specs.View.{view}
use Rattle.serde_json.specs.Written.{IsInOrder}
use Rattle.serde_json.specs.declared.value.Value.{Value}
use Rattle.serde_json.proofs.Views.{get_member-put_other}
use Rattle.judgement.specs.declared.finding.Finding.{Finding}
use Rattle.judgement.specs.declared.finding.Finding.TheVariants as findings
use Rattle.check_json.specs.Written.{IsAcceptedText}
use Rattle.check_explanation.specs.Objects.{IsObjectText, SaysVerdict}

pub object_text : (finding : Finding) (v : Value) (r : Result (String Global) AllocError) → SaysVerdict finding (view v) → IfOk r (λ s. IsInOrder (string_bytes s) (view v))
    → IfOk r (λ s. IsObjectText finding (string_bytes s))
object_text finding v (Ok s) says h = record { object = view v; spelled = h; verdict = says }
object_text finding v (Err a) says h = tt

pub accepted_text : (strict : Bool) (r : Result (String Global) AllocError) → IfOk r (λ s. IsAcceptedText strict (string_bytes s)) → IfOk r (λ s. IsObjectText (findings.Accepted strict) (string_bytes s))
accepted_text strict (Ok s) is = record { object = is.object; spelled = is.spelled; verdict = is.verdict }
accepted_text strict (Err a) is = tt

-- ---- further members

first_differs : (k : List ℕ) → codes "verdict" ≡ k → 118 ≡ get_or k 0 0
first_differs k e = ap (λ (l : List ℕ). get_or l 0 0) e

pub not_spirv : codes "verdict" ≢ codes "spirv"
not_spirv e = let h = first_differs (codes "spirv") e in omega (arith, h)

pub not_wgsl : codes "verdict" ≢ codes "wgsl"
not_wgsl e = let h = first_differs (codes "wgsl") e in omega (arith, h)

pub not_without : codes "verdict" ≢ codes "without"
not_without e = let h = first_differs (codes "without") e in omega (arith, h)

pub one_more : (k : List ℕ) (d : Data) (old new : Members) → codes "verdict" ≢ k → new ≡ with_member k d old → get (codes "verdict") (object new) ≡ get (codes "verdict") (object old)
one_more k d old new other is = ap (λ ms. get (codes "verdict") (object ms)) is ∙ get_member-put_other (codes "verdict") k d old other

pub said_still : (finding : Finding) (plain placed whole : Data) → SaysVerdict finding plain → get (codes "verdict") placed ≡ get (codes "verdict") plain → get (codes "verdict") whole ≡ get (codes "verdict") placed → SaysVerdict finding whole
said_still finding plain placed whole says first second = second ∙ (first ∙ says)
