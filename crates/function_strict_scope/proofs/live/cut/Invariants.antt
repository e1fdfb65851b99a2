use Rattle.std.proofs.Common.{◌≡◌, ◌⊎◌, ◌+◌, ◌-◌, ◌≤◌, length, take}
use Rattle.ir_items.specs.judged.Plain.{PlainFunction}
use Rattle.function_strict_scope.specs.Live.{Follows}
use Rattle.function_strict_scope.proofs.live.cut.Given as goal

-- it follows the first so many
abbrev pub invariant-loop-live : goal.invariant-loop-live
invariant-loop-live l = record {
  follows : (f : PlainFunction) → Follows f l.fn.live l.sure → Follows f l.live (take l.many l.sure);
  short : l.many ≤ length l.sure;
  either : (l.many ≡ length l.sure) ⊎ (l.count ≤ l.many);
}

abbrev pub decreases-loop-live : goal.decreases-loop-live
decreases-loop-live l = length l.live.ranges.items + (l.many - l.count)
