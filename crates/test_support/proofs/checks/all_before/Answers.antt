use Rattle.std.proofs.Common.{◌≡◌, ◌<◌, ℕ, List, take, get_or, subst, arith}
use Rattle.std.specs.List.{All}
use Rattle.std.proofs.lemmas.List.{take_all}
use Rattle.std.proofs.lemmas.List.Elements.{All-more}
use Rattle.test_support.proofs.checks.all_before.Goals as goal

pub loop-handle-preserved : goal.loop-handle-preserved
loop-handle-preserved c =
    let before : c.handle-item.result < c.args.place = (let e = c.index.ensures.value in omega arith) in
    let first : get_or c.args.handles.now c.loop-handle.handle-index c.handle-item.result < c.args.place = subst (λ (n : ℕ). n < c.args.place) c.handle-item.is before in
    All-more (λ h. h < c.args.place) c.args.handles.now c.loop-handle.handle-index c.handle-item.result (omega arith) c.loop-handle.invariant first

pub returns : goal.returns
returns c = λ yes.
    let whole : take c.loop-handle.handle-index c.args.handles.now ≡ c.args.handles.now = take_all c.loop-handle.handle-index c.args.handles.now (omega arith) in
    subst (λ (l : List ℕ). All (λ h. h < c.args.place) l) whole c.loop-handle.invariant
