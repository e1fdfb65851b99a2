use Rattle.std.proofs.Common.{◌≡◌, drop}
use Rattle.typing_references.specs.First.{first_past}
use Rattle.spec_expressions.specs.judged.Operands.{given}
use Rattle.module_handles.proofs.lists.given_past.Given as goal

-- the first of the rest is the first of all
abbrev pub invariant-loop-place : goal.invariant-loop-place
invariant-loop-place l = first_past l.end (given (drop l.place-index l.places)) ≡ first_past l.end (given l.places)
