use Rattle.std.proofs.Common.{sym, ◌∙◌}
use Rattle.typing_forms.specs.judged.Resolutions.{types_view}
use Rattle.typing_forms.proofs.Shapes.{pair_below, scalars_more, some_differ, none_differ}
use Rattle.typing_forms.proofs.conversions.differing_at.Goals as goal

pub loop-bases-smaller : goal.loop-bases-smaller
loop-bases-smaller c = pair_below (types_view c.args.types.now) c.requires c.loop-bases.left c.loop-bases.right c.in-Some.bases.0 c.in-Some.bases.1 (sym c.in-Some.ensures)

pub loop-bases-preserved : goal.loop-bases-preserved
loop-bases-preserved c =
    scalars_more (types_view c.args.types.now) c.loop-bases.left c.loop-bases.right c.args.from c.args.goal c.in-Some.bases.0 c.in-Some.bases.1 c.loop-bases.invariant (sym c.in-Some.ensures)

pub returns-clause-some : goal.returns-clause-some
returns-clause-some c =
    some_differ (types_view c.args.types.now) c.loop-bases.left c.loop-bases.right c.args.from c.args.goal c.scalars_at.result c.loop-bases.invariant c.scalars_at.ensures

pub returns-clause-none : goal.returns-clause-none
returns-clause-none c =
    none_differ (types_view c.args.types.now) c.loop-bases.left c.loop-bases.right c.args.from c.args.goal c.scalars_at.result c.loop-bases.invariant
    (sym c.bases_at.ensures ∙ c.in_default.is) c.scalars_at.ensures
