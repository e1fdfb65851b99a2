-- The JSON object of an explanation.
use Rattle.std.specs.Prelude.{ℕ, List, codes}
use Rattle.serde_json.specs.Data.{Data, string}
use Rattle.serde_json.specs.Written.{IsInOrder}
use Rattle.judgement.specs.declared.finding.Finding.{Finding}
use Rattle.judgement.specs.declared.finding.Finding.TheVariants as findings
use Rattle.check_faults.specs.Objects.{Has}

-- the word for a finding
abbrev pub verdict_word : Finding → List ℕ
verdict_word (findings.Accepted strict) = codes "accepted"
verdict_word findings.RefusedDocument = codes "refused"
verdict_word findings.RefusedHandles = codes "refused"
verdict_word (findings.Refused step index) = codes "refused"

-- the verdict of an object is the word for the finding
abbrev pub SaysVerdict : Finding → Data → Type 0
SaysVerdict finding value = Has value (codes "verdict") (string (verdict_word finding))

-- The text is the JSON of an object whose verdict is the word for the finding.
pub record IsObjectText (finding : Finding) (text : List ℕ) : Type 0 where
  pub object : Data
  pub spelled : IsInOrder text object
  pub verdict : SaysVerdict finding object
