use Rattle.std.proofs.Common.{◌≡◌, ◌<◌, ◌++◌, [], ℕ, List, length, reverse, Some, sym, ap, subst, ◌∙◌, arith}
use Rattle.std.specs.List.{All}
use Rattle.std.proofs.lemmas.List.{reverse-reverse}
use Rattle.std.proofs.lemmas.List.Elements.{All-pop}
use Rattle.ir_blocks.specs.IrTypes.{expression_view}
use Rattle.ir_items.specs.judged.Bases.{expressions_of}
use Rattle.ir_items.specs.found.Flat.{AreLeaves}
use Rattle.ir_items.proofs.FlatLemmas.{All-reverse, goes_on, stays_in, comes_nearer, one_more, empty, enough, nothing_left}
use Rattle.ir_items.proofs.Places.{plain_at}
use Rattle.ir_items.proofs.flatten.first_leaves.Goals as goal
use Rattle.ir_items.proofs.flatten.first_leaves.Goals.{else-loop-ahead-test, then-loop-ahead-test+in_default}

pub loop-ahead-init : goal.loop-ahead-init
loop-ahead-init c =
    let pushed : c.push_reversed.new.ahead.items ≡ reverse c.args.components.now = c.in_ok-push_reversed.ensures ∙ ap (λ l. l ++ reverse c.args.components.now) c.new-ahead.ensures.items in
    let nothing : c.new-leaves.result.items ≡ [] = c.new-leaves.ensures.items in
    record {
      in_arena = subst (λ (l : List ℕ). All (λ k. k < length c.args.expressions.now) l) (sym pushed) (All-reverse (λ k. k < length c.args.expressions.now) c.args.components.now c.requires.in_arena);
      few = let long = ap length nothing in omega arith;
      behind = λ leaves are.
          subst (λ (l : List ℕ). AreLeaves (expressions_of c.args.expressions.now) c.args.components.now (l ++ leaves)) (sym nothing)
          (subst (λ (l : List ℕ). AreLeaves (expressions_of c.args.expressions.now) l leaves) (ap reverse pushed ∙ reverse-reverse c.args.components.now) are);
    }

pub loop-ahead-smaller : goal.loop-ahead-smaller
loop-ahead-smaller c =
    let at = plain_at expression_view c.args.expressions.now c.in-Some.handle c.index.result.now c.index.ensures in
    let popped = All-pop (λ k. k < length c.args.expressions.now) c.loop-ahead.ahead.items c.pop.new.self.items (Some c.in-Some.handle) c.in-Some.ensures.items c.loop-ahead.invariant.in_arena in
    comes_nearer (expressions_of c.args.expressions.now) c.requires.parts (length c.args.expressions.now) c.in-Some.handle (expression_view c.index.result.now)
    c.pop.new.self.items c.loop-ahead.ahead.items c.take_apart.new.ahead.items c.loop-ahead.leaves.items c.take_apart.new.leaves.items
    at c.in-Some.ensures.items c.in_ok-take_apart.ensures popped.1

pub loop-ahead-preserved : goal.loop-ahead-preserved
loop-ahead-preserved c =
    let at = plain_at expression_view c.args.expressions.now c.in-Some.handle c.index.result.now c.index.ensures in
    let popped = All-pop (λ k. k < length c.args.expressions.now) c.loop-ahead.ahead.items c.pop.new.self.items (Some c.in-Some.handle) c.in-Some.ensures.items c.loop-ahead.invariant.in_arena in
    let more = one_more c.in-Some.handle (expression_view c.index.result.now) c.pop.new.self.items c.take_apart.new.ahead.items c.loop-ahead.leaves.items c.take_apart.new.leaves.items c.in_ok-take_apart.ensures in
    record {
      in_arena = stays_in (expressions_of c.args.expressions.now) c.requires.parts (length c.args.expressions.now) c.in-Some.handle (expression_view c.index.result.now)
          c.pop.new.self.items c.loop-ahead.ahead.items c.take_apart.new.ahead.items c.loop-ahead.leaves.items c.take_apart.new.leaves.items
          at c.in-Some.ensures.items c.in_ok-take_apart.ensures popped.0 popped.1;
      few = omega arith;
      behind = goes_on (expressions_of c.args.expressions.now) c.in-Some.handle (expression_view c.index.result.now) c.args.components.now
          c.pop.new.self.items c.loop-ahead.ahead.items c.take_apart.new.ahead.items c.loop-ahead.leaves.items c.take_apart.new.leaves.items
          at c.in-Some.ensures.items c.in_ok-take_apart.ensures c.loop-ahead.invariant.behind;
    }

pub returns : goal.returns
returns c =
    elim c.loop-ahead-test.branch [
      | else-loop-ahead-test w ↦
          enough c.args.expressions.now c.requires.parts c.args.most c.args.components.now c.loop-ahead.ahead.items c.loop-ahead.leaves.items
          c.loop-ahead.invariant.in_arena (omega arith) c.loop-ahead.invariant.behind
      | then-loop-ahead-test+in_default w ↦
          nothing_left (expressions_of c.args.expressions.now) c.args.most c.args.components.now c.loop-ahead.ahead.items c.loop-ahead.leaves.items
          (empty c.loop-ahead.ahead.items (omega (arith, w.in_default.ensures.cases.0))) c.loop-ahead.invariant.few c.loop-ahead.invariant.behind
    ]
