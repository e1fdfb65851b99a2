use Rattle.std.proofs.Common.{map}
use Rattle.typing_forms.specs.IrArena.{value_of_entry}
use Rattle.typing_forms.specs.IrTypes.{expression_view}
use Rattle.typing_layout.proofs.Latest.{expression_here, origins_below_at, one_kind_more_at}
use Rattle.typing_layout.proofs.tracker.kinds_of.Goals as goal

pub kind_of-kind-requires : goal.kind_of-kind-requires
kind_of-kind-requires c =
    origins_below_at (map expression_view (map value_of_entry c.args.arena.now)) c.loop-place.kinds.items c.loop-place.place (expression_view c.index.result.now) c.as_slice.result.now c.requires c.loop-place.invariant
    (expression_here c.args.arena.now c.loop-place.place c.at.result c.index.result.now c.at.ensures c.index.ensures) c.as_slice.ensures.value

pub loop-place-preserved : goal.loop-place-preserved
loop-place-preserved c =
    one_kind_more_at (map expression_view (map value_of_entry c.args.arena.now)) c.loop-place.kinds.items c.loop-place.place (expression_view c.index.result.now) c.as_slice.result.now c.kind_of-kind.result
    c.push.new.self.items c.requires c.loop-place.invariant (expression_here c.args.arena.now c.loop-place.place c.at.result c.index.result.now c.at.ensures c.index.ensures) c.as_slice.ensures.value c.kind_of-kind.ensures
    c.in_ok-push.ensures.items
