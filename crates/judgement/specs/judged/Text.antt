-- The text of a result.
use Rattle.std.specs.Prelude.{ℕ, Bool, true, false, List, ◌++◌, codes, decimal}
use Rattle.judgement.specs.declared.finding.Step.{Step}
use Rattle.judgement.specs.declared.finding.Step.TheVariants.{Layout, «Type», Typing, Expression, Constant, Override, Global, Function, Entry}
use Rattle.judgement.specs.declared.finding.Finding.{Finding}
use Rattle.judgement.specs.declared.finding.Finding.TheVariants.{Accepted, RefusedDocument, RefusedHandles, Refused}

abbrev pub step_word : Step → List ℕ
step_word Layout = codes "layout"
step_word «Type» = codes "type"
step_word Typing = codes "typing"
step_word Expression = codes "expression"
step_word Constant = codes "constant"
step_word Override = codes "override"
step_word Global = codes "global"
step_word Function = codes "function"
step_word Entry = codes "entry"

abbrev pub text_of : Finding → List ℕ
text_of (Accepted false) = codes "accepted\n"
text_of (Accepted true) = codes "accepted strict\n"
text_of RefusedDocument = codes "refused document\n"
text_of RefusedHandles = codes "refused handles\n"
text_of (Refused step index) = codes "refused " ++ step_word step ++ codes " " ++ decimal index ++ codes "\n"
