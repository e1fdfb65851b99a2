use Rattle.std.proofs.Common.{sym}
use Rattle.ir_types.specs.judged.Plain.{inner_view}
use Rattle.typing_forms.specs.judged.Resolutions.{types_view}
use Rattle.typing_forms.proofs.Shapes.{some_whole, none_whole, some_alike}
use Rattle.typing_forms.proofs.conversions.differing_scalars.Goals as goal

pub returns-in-Some-clause-some : goal.returns-in-Some-clause-some
returns-in-Some-clause-some c =
    some_whole (types_view c.args.types.now) (inner_view c.args.from.now) (inner_view c.args.goal.now) c.in-Some.bases.0 c.in-Some.bases.1 c.differing_at.result
    (sym c.in-Some.ensures) c.differing_at.ensures.some

pub returns-in-Some-clause-none : goal.returns-in-Some-clause-none
returns-in-Some-clause-none c =
    none_whole (types_view c.args.types.now) (inner_view c.args.from.now) (inner_view c.args.goal.now) c.in-Some.bases.0 c.in-Some.bases.1 c.differing_at.result
    (sym c.in-Some.ensures) c.differing_at.ensures.none

pub returns-in-None-clause-some : goal.returns-in-None-clause-some
returns-in-None-clause-some c =
    some_alike (types_view c.args.types.now) (inner_view c.args.from.now) (inner_view c.args.goal.now) c.scalars_of.result c.scalars_of.ensures
