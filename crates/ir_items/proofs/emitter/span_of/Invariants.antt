use Rattle.std.proofs.Common.{◌≡◌, take}
use Rattle.ir_blocks.specs.IrArena.{total_span}
use Rattle.ir_items.proofs.emitter.span_of.Given as goal

-- the union of the spans so far
abbrev pub invariant-loop-span : goal.invariant-loop-span
invariant-loop-span l = l.joined ≡ total_span (take l.span-index l.span-items)
