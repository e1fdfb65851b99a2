use Rattle.typing_forms.specs.IrTypes.{inner_view}
use Rattle.typing_forms.specs.judged.Resolutions.{types_view}
use Rattle.typing_layout.proofs.Held.{type_at, names_below_at, one_layout_more_at, refused_here}
use Rattle.typing_layout.proofs.layouter.lay_out.Goals as goal

pub layout_of-requires : goal.layout_of-requires
layout_of-requires c =
    names_below_at (types_view c.args.types.now) c.args.layouts.now.items c.loop-place.layouts.items c.loop-place.place (inner_view c.index.result.now.inner) c.as_slice.result.now c.requires.back
    c.loop-place.invariant (type_at c.args.types.now c.loop-place.place c.at-ty.result c.index.result.now c.at-ty.ensures c.index.ensures) c.as_slice.ensures.value

pub returns-in-Err-clause-refused : goal.returns-in-Err-clause-refused
returns-in-Err-clause-refused c = (
  refused_here (types_view c.args.types.now) c.args.layouts.now.items c.loop-place.layouts.items c.loop-place.place (inner_view c.index.result.now.inner) c.as_slice.result.now (record { ty = c.at-ty.result; inner = c.in-Err.inner })
      _ c.requires.back c.loop-place.invariant (type_at c.args.types.now c.loop-place.place c.at-ty.result c.index.result.now c.at-ty.ensures c.index.ensures) c.as_slice.ensures.value c.at-ty.ensures c.in-Err.ensures
      c.new.ensures.error,
  c.new.ensures.spans,
)

pub loop-place-preserved : goal.loop-place-preserved
loop-place-preserved c =
    one_layout_more_at (types_view c.args.types.now) c.args.layouts.now.items c.loop-place.layouts.items c.loop-place.place (inner_view c.index.result.now.inner) c.as_slice.result.now c.in-Ok.layout
    c.push.new.self.items c.requires.back c.loop-place.invariant (type_at c.args.types.now c.loop-place.place c.at-ty.result c.index.result.now c.at-ty.ensures c.index.ensures) c.as_slice.ensures.value c.in-Ok.ensures
    c.in_ok-push-in-Ok.ensures.items
