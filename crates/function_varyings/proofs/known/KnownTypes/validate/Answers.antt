use Rattle.std.proofs.Common.{refl}
use Rattle.function_varying_checks.specs.View.{context_view}
use Rattle.function_varyings.proofs.known.KnownTypes.validate.Goals as goal

pub returns-in-Some-clause-fine : goal.returns-in-Some-clause-fine
returns-in-Some-clause-fine c = c.requires.known.noted (context_view c.args.context.now) c.way_of.result c.args.ty c.in-Some.shown refl refl refl c.way_of.ensures c.in-Some.ensures
