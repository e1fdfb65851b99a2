use Rattle.std.proofs.Common.{◌≡◌, ◌++◌, drop}
use Rattle.function_strict_scope.proofs.expressions.add_all.Given as goal

-- what was added with the rest is what all add
abbrev pub invariant-loop-handle : goal.invariant-loop-handle
invariant-loop-handle l = (l.list.items ++ drop l.handle-index l.handles) ≡ l.fn.list.items ++ l.handles
