use Rattle.ir_types.specs.judged.Plain.{inner_view}
use Rattle.typing_forms.specs.judged.Resolutions.{types_view}
use Rattle.typing_forms.proofs.Constructed.{found_more}
use Rattle.typing_forms.proofs.constructible.constructible_types.Goals as goal

pub loop-place-preserved : goal.loop-place-preserved
loop-place-preserved c =
    found_more (types_view c.args.types.now) c.loop-place.known.items c.as_slice.result.now c.push.new.self.items c.loop-place.place (inner_view c.type_at.result.now) c.composed_of.result
    c.requires c.loop-place.invariant c.type_at.ensures c.as_slice.ensures.value c.composed_of.ensures c.in_ok-push.ensures.items
