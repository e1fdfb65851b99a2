use Rattle.std.proofs.Common.{true, false, length, arith}
use Rattle.std.specs.Fn.{FnReturnsAtPair}
use Rattle.std.proofs.lemmas.List.Elements.{AllWithin-more}
use Rattle.ir_arena.proofs.Entries.{HoldsAt-value, AllWithin-up_to}
use Rattle.ir_arena.proofs.arena.first_related.Goals as goal

pub returns-then-relate-clause-found : goal.returns-then-relate-clause-found
returns-then-relate-clause-found g c =
    record {
      within = omega (arith, c.loop-place-test.true, c.len-place-end.ensures);
      passes = HoldsAt-value (λ x. FnReturnsAtPair g.F.Fn c.args.fun.now x c.args.value.now true) c.args.entries.now c.loop-place.place c.value.result.now c.value.ensures (rw c.if-relate.true at c.relate.ensures);
      before = c.loop-place.invariant;
    }

pub loop-place-preserved : goal.loop-place-preserved
loop-place-preserved g c =
    AllWithin-more (λ entry. FnReturnsAtPair g.F.Fn c.args.fun.now entry.0 c.args.value.now false) _ _ _ c.loop-place.invariant
    (HoldsAt-value (λ x. FnReturnsAtPair g.F.Fn c.args.fun.now x c.args.value.now false) c.args.entries.now c.loop-place.place c.value.result.now c.value.ensures (rw c.if-relate.false at c.relate.ensures))

pub returns-clause-none : goal.returns-clause-none
returns-clause-none g c =
    AllWithin-up_to (λ entry. FnReturnsAtPair g.F.Fn c.args.fun.now entry.0 c.args.value.now false) _ _ (length c.args.entries.now) (omega (arith, c.loop-place-test.false, c.len-place-end.ensures)) c.loop-place.invariant
