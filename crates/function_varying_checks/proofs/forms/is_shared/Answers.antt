use Rattle.std.proofs.Common.{arith}
use Rattle.typing_forms.specs.judged.Resolutions.{types_view}
use Rattle.function_varying_checks.proofs.Reported.{known_shared, none_shared}
use Rattle.function_varying_checks.proofs.forms.is_shared.Goals as goal

pub returns-in-Some : goal.returns-in-Some
returns-in-Some c =
    let l = c.in-Some.ensures.lookup in
    known_shared (types_view c.args.context.now.types.now) c.args.context.now.infos.now c.args.ty c.index.result c.in-Some.info.now c.contains.result c.requires.told l.3.0 l.1 c.index.ensures.value (c.contains.ensures tt)

pub returns-in-None : goal.returns-in-None
returns-in-None c =
    let l = c.in-None.ensures.lookup in
    none_shared (types_view c.args.context.now.types.now) c.args.ty (omega (arith, l.3, c.index.ensures.value, c.requires.many))
