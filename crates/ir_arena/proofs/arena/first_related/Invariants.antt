use Rattle.std.specs.Fn.{FnReturnsAtPair}
use Rattle.std.proofs.Common.{false}
use Rattle.std.specs.List.{AllWithin}
use Rattle.ir_arena.proofs.arena.first_related.Given as goal

abbrev pub invariant-loop-place : goal.invariant-loop-place
invariant-loop-place g l = AllWithin (λ entry. FnReturnsAtPair g.F.Fn l.fun entry.0 l.value false) l.entries 0 l.place
