-- If no function and no entry point has a result, inserting missing returns makes no difference.
use Rattle.std.specs.Prelude.{◌↔◌, ℕ, List, Bool}
use Rattle.ir_flags.specs.declared.settings.Settings.{Settings}
use Rattle.ir_items.specs.judged.Plain.{PlainModule}
use Rattle.ir_items.specs.judged.Returned.{IsReturned}
use Rattle.judgement.specs.declared.finding.Finding.{Finding}
use Rattle.judgement.specs.judged.Steps.{IsPrepared, IsFinding}
use Rattle.spec_expressions.specs.judged.ModuleHandles.{HandlesOK}
use Rattle.judgement.specs.judged.Reports.{IsReport}
use Rattle.judgement_laws.specs.judged.Like.{HasNoResult}

-- the validation result is the same
abbrev pub ReturnsKeepFinding : Type 0
ReturnsKeepFinding = (d m : PlainModule) → HasNoResult d → IsReturned d m → (s : Settings) (f : Finding) → IsFinding s d f ↔ IsFinding s m f

-- the handles of one are valid if those of the other are
abbrev pub ReturnsKeepHandles : Type 0
ReturnsKeepHandles = (d m : PlainModule) → HasNoResult d → IsReturned d m → HandlesOK d ↔ HandlesOK m

-- the report is the same
abbrev pub ReturnsKeepReport : Type 0
ReturnsKeepReport = (d m : PlainModule) → HasNoResult d → IsReturned d m → (text : List ℕ) → IsReport d text ↔ IsReport m text

-- Two modules have the same validation result under all settings, and the same report.
pub record AreJudgedAlike (p q : PlainModule) : Type 0 where
  pub finding : (s : Settings) (f : Finding) → IsFinding s p f ↔ IsFinding s q f
  pub report : (text : List ℕ) → IsReport p text ↔ IsReport q text

-- For a document without results the validated modules have the same result and report, whether it requests returns or not.
abbrev pub ReturnsDontMatter : Type 0
ReturnsDontMatter = (d p q : PlainModule) (returns other : Bool) → HasNoResult d → IsPrepared returns d p → IsPrepared other d q → AreJudgedAlike p q
