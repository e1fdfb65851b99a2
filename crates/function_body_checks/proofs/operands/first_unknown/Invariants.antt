use Rattle.std.proofs.Common.{◌≡◌, drop}
use Rattle.ir_items.specs.found.View.{function_view}
use Rattle.spec_expressions.specs.judged.Operands.{these, looked_up}
use Rattle.function_body_checks.specs.Carried.{known, first_lacking}
use Rattle.function_body_checks.proofs.operands.first_unknown.Given as goal

-- the first of the rest is the first of all
abbrev pub invariant-loop-slot : goal.invariant-loop-slot
invariant-loop-slot l =
    first_lacking (known (function_view l.unknown.function.now) l.unknown.scope.now) (looked_up l.unknown.strict (these (drop l.slot-index l.slots)))
    ≡ first_lacking (known (function_view l.unknown.function.now) l.unknown.scope.now) (looked_up l.unknown.strict (these l.slots))
