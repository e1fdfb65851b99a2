-- The components so far are allowed, and their scalars are counted.
use Rattle.std.proofs.Common.{◌≡◌, map, take, sum}
use Rattle.module_constants.specs.Compositions.{in_32_bits}
use Rattle.module_constants.specs.Composed.{FitBelow, IsScalars, forms_of}
use Rattle.spec_expressions.specs.judged.Compose.{scalars_in}
use Rattle.module_constants.proofs.compose.scalars_of_all.Given as goal

abbrev pub invariant-loop-place : goal.invariant-loop-place
invariant-loop-place l = FitBelow (IsScalars l.scalar) (forms_of l.components) l.place × (l.given ≡ in_32_bits (sum (map scalars_in (take l.place (forms_of l.components)))))
