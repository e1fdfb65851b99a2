use Rattle.std.proofs.Common.{true, false, length, arith}
use Rattle.std.specs.Fn.{FnReturnsAt}
use Rattle.std.proofs.lemmas.List.Elements.{AllWithin-more}
use Rattle.ir_arena.proofs.Entries.{HoldsAt-value, AllWithin-up_to}
use Rattle.ir_arena.proofs.arena.first_passing.Goals as goal

pub returns-then-answer-clause-found : goal.returns-then-answer-clause-found
returns-then-answer-clause-found g c =
    record {
      within = omega (arith, c.loop-place-test.true, c.len-place-end.ensures);
      passes = HoldsAt-value (λ x. FnReturnsAt g.F.Fn c.args.fun.now x true) c.args.entries.now c.loop-place.place c.value.result.now c.value.ensures (rw c.if-answer.true at c.answer.ensures);
      before = c.loop-place.invariant;
    }

pub loop-place-preserved : goal.loop-place-preserved
loop-place-preserved g c =
    AllWithin-more (λ entry. FnReturnsAt g.F.Fn c.args.fun.now entry.0 false) _ _ _ c.loop-place.invariant
    (HoldsAt-value (λ x. FnReturnsAt g.F.Fn c.args.fun.now x false) c.args.entries.now c.loop-place.place c.value.result.now c.value.ensures (rw c.if-answer.false at c.answer.ensures))

pub returns-clause-none : goal.returns-clause-none
returns-clause-none g c =
    AllWithin-up_to (λ entry. FnReturnsAt g.F.Fn c.args.fun.now entry.0 false) _ _ (length c.args.entries.now) (omega (arith, c.loop-place-test.false, c.len-place-end.ensures)) c.loop-place.invariant
