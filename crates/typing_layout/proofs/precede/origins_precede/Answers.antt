use Rattle.std.proofs.Common.{sym, ◌∙◌, refl, true≢false, map, arith}
use Rattle.typing_forms.specs.IrArena.{value_of_entry}
use Rattle.typing_forms.specs.IrTypes.{expression_view}
use Rattle.typing_layout.proofs.Latest.{expression_here}
use Rattle.typing_layout.proofs.Precedence.{one_precedes_more, all_precede}
use Rattle.typing_layout.proofs.precede.origins_precede.Goals as goal

pub returns-then-not-origin_precedes : goal.returns-then-not-origin_precedes
returns-then-not-origin_precedes c = (
  (λ h. absurd (true≢false (sym h))),
  (λ precede.
      absurd (true≢false (sym (c.origin_precedes.ensures.1 (precede c.loop-place.place (expression_view c.index.result.now) (expression_here c.args.arena.now c.loop-place.place c.at.result c.index.result.now c.at.ensures c.index.ensures))) ∙ c.if-not-origin_precedes.true))),
)

pub loop-place-preserved : goal.loop-place-preserved
loop-place-preserved c =
    one_precedes_more (map expression_view (map value_of_entry c.args.arena.now)) c.loop-place.place (expression_view c.index.result.now) c.loop-place.invariant
    (expression_here c.args.arena.now c.loop-place.place c.at.result c.index.result.now c.at.ensures c.index.ensures) (c.origin_precedes.ensures.0 c.if-not-origin_precedes.false)

pub returns : goal.returns
returns c = ((λ h. all_precede c.args.arena.now c.loop-place.place (omega arith) c.loop-place.invariant), (λ precede. refl))
