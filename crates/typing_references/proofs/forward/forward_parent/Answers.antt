use Rattle.std.proofs.Common.{sym, subst, map}
use Rattle.std.specs.Option.{MatchOption}
use Rattle.ir_items.specs.found.GlobalView.{values_of, node_view}
use Rattle.typing_references.specs.Faults.{IsForwardParent}
use Rattle.typing_references.proofs.FaultLaws.{parents_told}
use Rattle.ir_items.specs.found.Filters.{ParentsPrecede}
use Rattle.typing_references.proofs.forward.forward_parent.Goals as goal

pub returns : goal.returns
returns c =
    let nodes = map node_view (values_of c.args.filters.now) in
    subst (λ o. MatchOption o (ParentsPrecede nodes) (IsForwardParent nodes)) (sym c.parents_with_handles.ensures) (parents_told c.args.filters.now)
