use Rattle.std.proofs.Common.{◌≡◌, ◌+◌, ◌≤◌, suc, [], ◌∷◌, drop, length, drop-cons, sym, ap, ◌∙◌, arith}
use Rattle.std.proofs.lemmas.List.{drop_all}
use Rattle.ir_items.specs.found.View.{function_view}
use Rattle.function_strict_scope.proofs.LiveLemmas.{paired_more, paired_last}
use Rattle.function_strict_scope.proofs.pairs.add_operands.Goals as goal

pub loop-operand-preserved : goal.loop-operand-preserved
loop-operand-preserved c =
    let was = c.loop-operand.pairs in
    let now = c.add_operand.new.pairs in
    let all = c.args.operands.now in
    let at = c.loop-operand.operand-index in
    let h = c.operand-item.result in
    let next : suc at ≡ at + 1 = omega arith in
    let is : drop at all ≡ h ∷ drop (at + 1) all =
    drop-cons all at h c.loop-operand-test.true ∙ ap (λ x. x ∷ drop (suc at) all) (sym c.operand-item.is) ∙ ap (λ n. h ∷ drop n all) next in
    record {
      len = c.in_ok-fits.ensures.len;
      kept = λ o e paired. c.in_ok-fits.ensures.kept o e (c.loop-operand.invariant.kept o e paired);
      added = paired_more (function_view c.args.function.now) c.loop-operand.whole c.in_ok-fits.fits c.both-whole.result c.args.place was.operands.items was.users.items now.operands.items now.users.items all (drop at all) h (drop (at + 1) all)
          c.loop-operand.invariant.added is c.in_ok-fits.ensures.kept c.in_ok-fits.ensures.added c.both-whole.ensures;
    }

pub returns-clause-added : goal.returns-clause-added
returns-clause-added c =
    let all = c.args.operands.now in
    let at = c.loop-operand.operand-index in
    let past : length all ≤ at = omega (arith, c.loop-operand-test.false) in
    let done : drop at all ≡ [] = drop_all at all past in
    paired_last (function_view c.args.function.now) c.loop-operand.whole c.args.place c.loop-operand.pairs.operands.items c.loop-operand.pairs.users.items all (drop at all) c.loop-operand.invariant.added done
