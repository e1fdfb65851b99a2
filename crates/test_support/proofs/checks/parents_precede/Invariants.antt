use Rattle.std.proofs.Common.{◌<◌}
use Rattle.std.specs.Option.{ForSome}
use Rattle.ir_items.specs.judged.GlobalPlain.{PlainFilterNode}
use Rattle.ir_items.specs.found.Filters.{nodes_of}
use Rattle.test_support.proofs.CheckLemmas.{UpTo}
use Rattle.test_support.proofs.checks.parents_precede.Given as goal

abbrev pub invariant-loop-place : goal.invariant-loop-place
invariant-loop-place l = UpTo (λ place (node : PlainFilterNode). ForSome node.parent (λ parent. parent < place)) (nodes_of l.arena) l.place
