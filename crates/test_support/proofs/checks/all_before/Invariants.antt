use Rattle.std.proofs.Common.{◌<◌, take}
use Rattle.std.specs.List.{All}
use Rattle.test_support.proofs.checks.all_before.Given as goal

abbrev pub invariant-loop-handle : goal.invariant-loop-handle
invariant-loop-handle l = All (λ handle. handle < l.place) (take l.handle-index l.handles)
