use Rattle.std.proofs.Common.{◌≡◌, ◌+◌, add-one, true, cond, subst}
use Rattle.std.specs.BTreeSet.{contains}
use Rattle.std.specs.Ordering.{is_eq}
use Rattle.typing_infos.proofs.IndexLemmas.{one_put}
use Rattle.typing_infos.specs.Codes.{code_cmp}
use Rattle.typing_infos.proofs.pair_set.codes_of.Goals as goal

pub loop-pair-preserved : goal.loop-pair-preserved
loop-pair-preserved c =
    let old = c.loop-pair.codes in
    let new = c.insert.new.self in
    one_put old new c.args.pairs.now c.loop-pair.pair-index (c.loop-pair.pair-index + 1) c.pair-item.result (add-one c.loop-pair.pair-index) c.loop-pair-test.true c.pair-item.is
    (λ x. subst (λ k. contains code_cmp new x ≡ cond (is_eq (code_cmp k x)) true (contains code_cmp old x)) c.code_of.ensures (c.in-Ok.ensures.updates.0 x)) c.loop-pair.invariant
