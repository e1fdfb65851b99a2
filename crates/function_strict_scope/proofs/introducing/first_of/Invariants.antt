use Rattle.std.proofs.Common.{◌≡◌, drop}
use Rattle.ir_items.specs.found.View.{function_view}
use Rattle.function_body_checks.specs.Carried.{known, first_lacking}
use Rattle.function_strict_scope.proofs.introducing.first_of.Given as goal

-- the first of the rest is the first of all
abbrev pub invariant-loop-handle : goal.invariant-loop-handle
invariant-loop-handle l =
    first_lacking (known (function_view l.function) l.sure) (drop l.handle-index l.handles) ≡ first_lacking (known (function_view l.function) l.sure) l.handles
