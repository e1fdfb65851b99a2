use Rattle.std.proofs.Common.{◌≡◌, drop}
use Rattle.ir_items.specs.found.View.{function_view}
use Rattle.function_body_checks.specs.Carried.{known, place_lacking}
use Rattle.function_body_checks.proofs.operands.unknown_place.Given as goal

-- the first of the rest is the first of all
abbrev pub invariant-loop-place : goal.invariant-loop-place
invariant-loop-place l =
    place_lacking (known (function_view l.function) l.scope) l.place (drop l.place l.arguments) ≡ place_lacking (known (function_view l.function) l.scope) 0 l.arguments
