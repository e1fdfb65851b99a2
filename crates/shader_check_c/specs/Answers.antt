-- The results for a host.
use Rattle.std.specs.Prelude.{◌≡◌, ◌≢◌, ◌↔◌, ◌++◌, ℕ, List, IsTrue, codes, drop, length, min, nat_eq, take}
use Rattle.std.specs.List.{starts_with}
use Rattle.judgement.specs.judged.Text.{text_of}
use Rattle.judgement.specs.declared.finding.Finding.{Finding}
use Rattle.judgement.specs.declared.finding.Finding.TheVariants as findings
use Rattle.shader_check.specs.found.Judgements.{Judged}
use Rattle.shader_check.specs.judged.Theorem.{IsExpected, SoundText}
use Rattle.shader_check.specs.declared.check.Verdict.{Verdict}
use Rattle.shader_check.specs.declared.check.Verdict.TheVariants.{Accepted, Refused}
use Rattle.check_explanation.specs.Answered.{IsAnswered, verdict_of}
use Rattle.check_explanation.specs.Answered.{IsExplained as IsExplainedAs}
use Rattle.check_explanation.specs.Explained.{finding_of}
use Rattle.check_explanation.specs.Listed.{ExplainsBytes, lines_of}
use Rattle.check_explanation.specs.Objects.{IsObjectText}
use Rattle.check_explanation.specs.declared.explanation.Explanation.{Explanation}
use Rattle.check_explanation.specs.declared.lines.Requested.TheVariants.{Leaves, Report}
use Rattle.check_explanation.specs.declared.spirv.SpirvVerdict.{SpirvVerdict}
use Rattle.check_explanation.specs.declared.spirv.SpirvVerdict.TheVariants as spirv

-- The text is the expected one for the bytes, the verdict is what it begins with, and if the document is
-- valid all guarantees hold.
pub record IsAnswerOn (bytes : List ℕ) (verdict : Verdict) (text : List ℕ) : Type 0 where
  pub expected : IsExpected bytes text
  pub verdict_is : (verdict ≡ Accepted) ↔ IsTrue (starts_with nat_eq text (codes "accepted"))
  pub sound : verdict ≡ Accepted → SoundText bytes text

-- the first bytes are those of a text, as many as fit, and the others are unchanged
abbrev pub front_of : (text old : List ℕ) → List ℕ
front_of text old = take (min (length text) (length old)) text ++ drop (min (length text) (length old)) old

abbrev pub status_of : Verdict → ℕ
status_of Accepted = 0
status_of Refused = 1

-- The host receives a prefix of the expected text and its length, and the status is that of its verdict.
pub record IsGiven (document : List ℕ) (status : ℕ) (old new : List ℕ) (needed : ℕ) : Type 0 where
  pub verdict : Verdict
  pub text : List ℕ
  pub answer : IsAnswerOn document verdict text
  pub status_is : status ≡ status_of verdict
  pub written : new ≡ front_of text old
  pub whole : needed ≡ length text

abbrev pub status_in : Finding → ℕ
status_in (findings.Accepted strict) = 0
status_in findings.RefusedDocument = 1
status_in findings.RefusedHandles = 1
status_in (findings.Refused step index) = 1

-- The host receives a prefix of the text of an object and its length; its verdict and the status are those of the finding for the
-- document.
pub record IsExplained (document : List ℕ) (status : ℕ) (old new : List ℕ) (needed : ℕ) : Type 0 where
  pub finding : Finding
  pub judged : Judged document finding
  pub status_is : status ≡ status_in finding
  pub text : List ℕ
  pub object : IsObjectText finding text
  pub written : new ≡ front_of text old
  pub whole : needed ≡ length text

abbrev pub status_of_spirv : SpirvVerdict → ℕ
status_of_spirv spirv.Accepted = 0
status_of_spirv spirv.Refused = 1
status_of_spirv spirv.Unread = 3

-- The host receives a prefix of a text and its length, and the status is that of a verdict to which the text belongs.
pub record IsGivenOfSpirv (status : ℕ) (old new : List ℕ) (needed : ℕ) : Type 0 where
  pub verdict : SpirvVerdict
  pub text : List ℕ
  pub answered : IsAnswered verdict text
  pub status_is : status ≡ status_of_spirv verdict
  pub written : new ≡ front_of text old
  pub whole : needed ≡ length text

-- The text is the line of the finding for the document, followed, if that is valid, by the lines of its buffers, each with those
-- of its leaves.
pub record IsListing (document : List ℕ) (finding : Finding) (text : List ℕ) : Type 0 where
  pub explanation : Explanation
  pub finding_is : finding ≡ finding_of explanation
  pub judged : Judged document finding
  pub explains : ExplainsBytes Leaves document explanation
  pub text_is : text ≡ text_of finding ++ lines_of explanation

-- The host receives a prefix of such a text and its length, and the status is that of the finding.
pub record IsGivenListing (document : List ℕ) (status : ℕ) (old new : List ℕ) (needed : ℕ) : Type 0 where
  pub finding : Finding
  pub text : List ℕ
  pub listing : IsListing document finding text
  pub status_is : status ≡ status_in finding
  pub written : new ≡ front_of text old
  pub whole : needed ≡ length text

-- The text is the object of the finding for some document with all checks, and the verdict is that of it.
pub record IsObjectOfSome (verdict : SpirvVerdict) (text : List ℕ) : Type 0 where
  pub explanation : Explanation
  pub explained : IsExplainedAs Report explanation
  pub verdict_is : verdict ≡ verdict_of (finding_of explanation)
  pub object : IsObjectText (finding_of explanation) text

-- The text is the listing of the finding for some document with all checks, and the verdict is that of it.
pub record IsListingOfSome (verdict : SpirvVerdict) (text : List ℕ) : Type 0 where
  pub explanation : Explanation
  pub explained : IsExplainedAs Leaves explanation
  pub verdict_is : verdict ≡ verdict_of (finding_of explanation)
  pub text_is : text ≡ text_of (finding_of explanation) ++ lines_of explanation

-- nothing is stated for a module that was not read
abbrev pub IsObjectOfSpirv : SpirvVerdict → (text : List ℕ) → Type 0
IsObjectOfSpirv spirv.Accepted text = IsObjectOfSome spirv.Accepted text
IsObjectOfSpirv spirv.Refused text = IsObjectOfSome spirv.Refused text
IsObjectOfSpirv spirv.Unread text = Unit {0}

abbrev pub IsListingOfSpirv : SpirvVerdict → (text : List ℕ) → Type 0
IsListingOfSpirv spirv.Accepted text = IsListingOfSome spirv.Accepted text
IsListingOfSpirv spirv.Refused text = IsListingOfSome spirv.Refused text
IsListingOfSpirv spirv.Unread text = Unit {0}

-- The host receives a prefix of a text and its length, and the status is that of a verdict such that `Of` holds with the text.
pub record IsGivenWith (Of : SpirvVerdict → List ℕ → Type 0) (status : ℕ) (old new : List ℕ) (needed : ℕ) : Type 0 where
  pub verdict : SpirvVerdict
  pub text : List ℕ
  pub of : Of verdict text
  pub status_is : status ≡ status_of_spirv verdict
  pub written : new ≡ front_of text old
  pub whole : needed ≡ length text

-- the module was read, or not
abbrev pub IsReadOrNot : SpirvVerdict → (text : List ℕ) → Type 0
IsReadOrNot verdict text = verdict ≢ spirv.Refused
