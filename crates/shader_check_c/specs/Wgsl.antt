-- The results for a host that has WGSL.
use Rattle.std.specs.Prelude.{◌≡◌, ◌≢◌, ◌++◌, ℕ, List, length}
use Rattle.judgement.specs.judged.Text.{text_of}
use Rattle.check_explanation.specs.Answered.{IsExplained}
use Rattle.check_explanation.specs.Explained.{finding_of}
use Rattle.check_explanation.specs.Listed.{lines_of}
use Rattle.check_explanation.specs.Objects.{IsObjectText}
use Rattle.check_explanation.specs.declared.explanation.Explanation.{Explanation}
use Rattle.check_explanation.specs.declared.lines.Requested.TheVariants.{Leaves, Report}
use Rattle.check_wgsl.specs.Answered.{verdict_of}
use Rattle.check_wgsl.specs.declared.judged.WgslVerdict.{WgslVerdict}
use Rattle.check_wgsl.specs.declared.judged.WgslVerdict.TheVariants.{Accepted, Refused, Unread}
use Rattle.shader_check_c.specs.Answers.{front_of}

abbrev pub status_of_wgsl : WgslVerdict → ℕ
status_of_wgsl Accepted = 0
status_of_wgsl Refused = 1
status_of_wgsl Unread = 3

-- The host receives a prefix of a text and its length, and the status is that of a verdict such that `Of` holds with the text.
pub record IsGivenOfWgsl (Of : WgslVerdict → List ℕ → Type 0) (status : ℕ) (old new : List ℕ) (needed : ℕ) : Type 0 where
  pub verdict : WgslVerdict
  pub text : List ℕ
  pub of : Of verdict text
  pub status_is : status ≡ status_of_wgsl verdict
  pub written : new ≡ front_of text old
  pub whole : needed ≡ length text

-- The text is the object of the finding for some document with all checks, and the verdict is that of it.
pub record IsObjectOfSome (verdict : WgslVerdict) (text : List ℕ) : Type 0 where
  pub explanation : Explanation
  pub explained : IsExplained Report explanation
  pub verdict_is : verdict ≡ verdict_of (finding_of explanation)
  pub object : IsObjectText (finding_of explanation) text

-- The text is the listing of the finding for some document with all checks, and the verdict is that of it.
pub record IsListingOfSome (verdict : WgslVerdict) (text : List ℕ) : Type 0 where
  pub explanation : Explanation
  pub explained : IsExplained Leaves explanation
  pub verdict_is : verdict ≡ verdict_of (finding_of explanation)
  pub text_is : text ≡ text_of (finding_of explanation) ++ lines_of explanation

-- nothing is stated for a text of which no module was read
abbrev pub IsObjectOfWgsl : WgslVerdict → (text : List ℕ) → Type 0
IsObjectOfWgsl Accepted text = IsObjectOfSome Accepted text
IsObjectOfWgsl Refused text = IsObjectOfSome Refused text
IsObjectOfWgsl Unread text = Unit {0}

abbrev pub IsListingOfWgsl : WgslVerdict → (text : List ℕ) → Type 0
IsListingOfWgsl Accepted text = IsListingOfSome Accepted text
IsListingOfWgsl Refused text = IsListingOfSome Refused text
IsListingOfWgsl Unread text = Unit {0}

-- the module was read, or not
abbrev pub IsReadOrNotOfWgsl : WgslVerdict → (text : List ℕ) → Type 0
IsReadOrNotOfWgsl verdict text = verdict ≢ Refused
