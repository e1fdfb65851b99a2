-- The forms so far, followed by those of the remaining types, are the forms of all.
use Rattle.std.proofs.Common.{◌≡◌, ◌++◌, map, drop}
use Rattle.typing_forms.specs.judged.Resolutions.{types_view}
use Rattle.typing_errors.specs.Answers.{form_given}
use Rattle.module_constants.proofs.given.forms_given.Given as goal

abbrev pub invariant-loop-resolution : goal.invariant-loop-resolution
invariant-loop-resolution l = (l.forms.items ++ map (form_given (types_view l.types)) (drop l.resolution-index l.resolutions)) ≡ map (form_given (types_view l.types)) l.resolutions
