-- The result of a validation.
use Rattle.std.proofs.Common.{◌≡◌, ◌++◌, ℕ, List, string_bytes}
use Rattle.judgement.specs.judged.Text.{text_of}
use Rattle.check_explanation.specs.Answered.{Judgement}
use Rattle.check_wgsl.specs.Answered.{IsAnswered, IsOfSome, verdict_of}
use Rattle.check_wgsl.specs.declared.judged.WgslVerdict.{WgslVerdict}
use Rattle.check_wgsl.specs.declared.judged.WgslVerdict.TheVariants.{Accepted, Refused, Unread}

pub answered : (j : Judgement) (v : WgslVerdict) (text : List ℕ) → IsOfSome j → v ≡ verdict_of j.finding → text ≡ text_of j.finding ++ string_bytes j.report → IsAnswered v text
answered j Accepted text of v t = record { judgement = j; of = of; verdict_is = v; text_is = t }
answered j Refused text of v t = record { judgement = j; of = of; verdict_is = v; text_is = t }
answered j Unread text of v t = tt
