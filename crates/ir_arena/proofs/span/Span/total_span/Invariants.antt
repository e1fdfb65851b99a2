use Rattle.std.proofs.Common.{◌≡◌}
use Rattle.ir_arena.specs.found.Spans.{total_span}
use Rattle.ir_arena.proofs.span.Span.total_span.Given as goal

abbrev pub invariant-loop-span : goal.invariant-loop-span
invariant-loop-span g l =
    (goal.iterator-loop-span g).can_next l.span-iterator × (goal.iterator-loop-span g).is_finite l.span-iterator
    × (l.total ≡ total_span l.yielded)
