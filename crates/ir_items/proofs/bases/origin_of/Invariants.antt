-- The rest of the chain stays in the arena, and has the same end as the whole chain.
use Rattle.std.proofs.Common.{◌<◌, length, ℕ, Option}
use Rattle.ir_items.specs.judged.Bases.{expressions_of, HasOrigin}
use Rattle.ir_items.proofs.bases.origin_of.Given as goal

abbrev pub invariant-loop-base : goal.invariant-loop-base
invariant-loop-base l = record {
  in_arena : l.current < length l.fn.function.expressions;
  behind : (origin : Option ℕ) → HasOrigin (expressions_of l.fn.function.expressions) l.current origin → HasOrigin (expressions_of l.fn.function.expressions) l.fn.pointer origin;
}

abbrev pub decreases-loop-base : goal.decreases-loop-base
decreases-loop-base l = l.current
