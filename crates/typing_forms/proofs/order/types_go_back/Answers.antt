use Rattle.std.proofs.Common.{sym, ◌∙◌, refl, true≢false, arith}
use Rattle.ir_types.specs.judged.Plain.{inner_view}
use Rattle.typing_forms.specs.judged.Resolutions.{types_view}
use Rattle.typing_forms.proofs.Orders.{back_more, back_all}
use Rattle.typing_forms.proofs.order.types_go_back.Goals as goal

pub loop-place-preserved : goal.loop-place-preserved
loop-place-preserved c =
    back_more (types_view c.args.types.now) c.loop-place.place (inner_view c.type_at.result.now) c.loop-place.invariant c.type_at.ensures
    (c.names_below.ensures.0 c.if-not-names_below.false)

pub returns-then-not-names_below : goal.returns-then-not-names_below
returns-then-not-names_below c = (
  (λ h. absurd (true≢false (sym h))),
  (λ back. absurd (true≢false (sym (c.names_below.ensures.1 (back.each c.loop-place.place (inner_view c.type_at.result.now) (sym c.type_at.ensures))) ∙ c.if-not-names_below.true))),
)

pub returns : goal.returns
returns c = ((λ h. back_all c.args.types.now c.loop-place.place (omega arith) c.loop-place.invariant), (λ back. refl))
