use Rattle.std.proofs.Common.{◌≡◌, map, take}
use Rattle.typing_forms.specs.judged.Resolutions.{types_view}
use Rattle.typing_errors.specs.Answers.{form_given}
use Rattle.function_whole.proofs.forms.forms_of.Given as goal

-- the forms are those of the types before
abbrev pub invariant-loop-index : goal.invariant-loop-index
invariant-loop-index g l = l.forms.items ≡ map (form_given (types_view l.types)) (take l.index (g.L.Lower.types l.lower l.info))
