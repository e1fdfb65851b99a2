use Rattle.std.proofs.Common.{◌≡◌, true, cond, sym, subst}
use Rattle.std.specs.BTreeSet.{contains}
use Rattle.std.specs.Ordering.{is_eq}
use Rattle.typing_infos.proofs.CodeLemmas.{one_coded}
use Rattle.typing_infos.specs.Codes.{code_cmp, IsIndexOf}
use Rattle.typing_infos.proofs.pair_set.PairSet.insert.Goals as goal

pub invariant_of-self-in-Ok : goal.invariant_of-self-in-Ok
invariant_of-self-in-Ok c =
    let old = c.self.inside.codes in
    let new = c.insert.new.self in
    subst (IsIndexOf new) (sym c.in_ok-push.ensures.items)
    (one_coded old new c.self.inside.pairs.items c.args.pair
    (λ x. subst (λ k. contains code_cmp new x ≡ cond (is_eq (code_cmp k x)) true (contains code_cmp old x)) c.code_of.ensures (c.in-Ok.ensures.updates.0 x)) c.self.invariant)
