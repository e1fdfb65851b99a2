use Rattle.std.proofs.Common.{◌≡◌, ◌≤◌, ◌++◌, [], length, drop}
use Rattle.check_paths.specs.Json.{path_along}
use Rattle.check_paths.proofs.path.push_steps.Given as goal

-- the path of the steps from there on is appended
abbrev pub invariant-loop-left : goal.invariant-loop-left
invariant-loop-left l = (l.left ≤ length l.steps) × (l.path.items ≡ l.fn.path.items ++ path_along (drop l.left l.steps) [])

abbrev pub decreases-loop-left : goal.decreases-loop-left
decreases-loop-left l = l.left
