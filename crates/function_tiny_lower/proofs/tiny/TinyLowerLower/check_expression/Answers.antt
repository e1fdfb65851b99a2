use Rattle.std.proofs.Common.{Some, map, option_map, refl, sym, ap, ◌∙◌}
use Rattle.function_tiny_lower.proofs.Typed.{occurs_at}
use Rattle.function_tiny_lower.specs.Ends.{noted_of}
use Rattle.function_tiny_lower.specs.Readings.{found_fits, stages_by}
use Rattle.function_tiny_lower.proofs.tiny.TinyLowerLower.check_expression.Goals as goal

pub returns-then-fits : goal.returns-then-fits
returns-then-fits c =
    let at = occurs_at c.args.context.now.function.now.expressions c.args.expression c.args.expression c.index-checked.result.now c.index-checked.ensures refl in (
      ap (found_fits c.args.context.now.forms.now) at ∙ (sym c.fits.ensures ∙ c.if-fits.true),
      ap (option_map (stages_by (map noted_of c.args.callees.now))) at ∙ ap Some (sym c.stages_by.ensures),
    )

pub returns-else-fits : goal.returns-else-fits
returns-else-fits c =
    let at = occurs_at c.args.context.now.function.now.expressions c.args.expression c.args.expression c.index-checked.result.now c.index-checked.ensures refl in
    (refl, ap (found_fits c.args.context.now.forms.now) at ∙ (sym c.fits.ensures ∙ c.if-fits.false))
