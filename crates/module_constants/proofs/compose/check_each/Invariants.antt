-- The components so far have the form.
use Rattle.module_constants.specs.Composed.{FitBelow, IsForm, forms_of}
use Rattle.module_constants.proofs.compose.check_each.Given as goal

abbrev pub invariant-loop-place : goal.invariant-loop-place
invariant-loop-place l = FitBelow (IsForm l.wanted) (forms_of l.components) l.place
