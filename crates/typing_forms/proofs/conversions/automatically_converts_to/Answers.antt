use Rattle.std.proofs.Common.{sym, ◌∙◌}
use Rattle.ir_types.specs.judged.Plain.{inner_view}
use Rattle.typing_forms.specs.judged.Resolutions.{types_view}
use Rattle.typing_forms.proofs.Shapes.{no_conversion}
use Rattle.typing_forms.proofs.conversions.automatically_converts_to.Goals as goal

pub returns-in-None-clause-none : goal.returns-in-None-clause-none
returns-in-None-clause-none c =
    no_conversion (types_view c.args.types.now) (inner_view c.args.from.now) (inner_view c.args.goal.now) c.in_ok-from.from c.in_ok-from.goal
    c.in_ok-from.ensures.some (sym c.converted_rank.ensures ∙ c.in-None.is)
