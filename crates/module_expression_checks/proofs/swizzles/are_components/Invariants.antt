-- The components so far are in bounds.
use Rattle.module_expression_checks.specs.Letters.{StandBelow}
use Rattle.module_expression_checks.proofs.swizzles.are_components.Given as goal

abbrev pub invariant-loop-place : goal.invariant-loop-place
invariant-loop-place l = StandBelow l.size l.pattern l.of l.place
