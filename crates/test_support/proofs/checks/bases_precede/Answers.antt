use Rattle.std.proofs.Common.{◌≡◌, ◌<◌, ℕ, Some, length, slice_get, subst, arith}
use Rattle.std.specs.Option.{ForSome}
use Rattle.ir_types.specs.judged.ExpressionPlain.{PlainExpression, expression_view}
use Rattle.ir_items.specs.judged.Bases.{expressions_of, base_of}
use Rattle.ir_items.proofs.Places.{plain_at}
use Rattle.test_support.proofs.CheckLemmas.{UpTo, further, everywhere}
use Rattle.test_support.proofs.checks.bases_precede.Goals as goal

pub loop-place-preserved : goal.loop-place-preserved
loop-place-preserved c =
    let at = plain_at expression_view c.args.arena.now c.at.result c.index.result.now c.index.ensures in
    let stands : slice_get (expressions_of c.args.arena.now) c.loop-place.place ≡ Some (expression_view c.index.result.now) = subst (λ (n : ℕ). slice_get (expressions_of c.args.arena.now) n ≡ Some (expression_view c.index.result.now)) c.at.ensures at in
    further (λ place (e : PlainExpression). ForSome (base_of e) (λ base. base < place)) (expressions_of c.args.arena.now) c.loop-place.place (expression_view c.index.result.now) stands (c.base_is_before.ensures c.if-not-base_is_before.false) c.loop-place.invariant

pub returns : goal.returns
returns c =
    let end : c.loop-place.place ≡ length c.args.arena.now = (let e = c.len-place-end.ensures.value in omega arith) in
    let each = everywhere expression_view (λ place (e : PlainExpression). ForSome (base_of e) (λ base. base < place)) c.args.arena.now (subst (λ (n : ℕ). UpTo (λ place (e : PlainExpression). ForSome (base_of e) (λ base. base < place)) (expressions_of c.args.arena.now) n) end c.loop-place.invariant) in
    λ yes handle base e at is. each handle e at base is
