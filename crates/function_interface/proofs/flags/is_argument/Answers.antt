use Rattle.std.proofs.Common.{arith, refl}
use Rattle.module_context.proofs.Absent.{known_flag}
use Rattle.function_interface.proofs.Known.{taken_past}
use Rattle.typing_layout.specs.judged.Flags.{Argument}
use Rattle.function_interface.proofs.flags.is_argument.Goals as goal

pub returns-in-Some : goal.returns-in-Some
returns-in-Some c = λ types told.
    let l = c.in-Some.ensures.lookup in
    known_flag types c.args.infos.now c.args.ty c.index.result 64 c.in-Some.info.now Argument c.contains.result told.told l.3.0 l.1 c.index.ensures.value (c.contains.ensures tt) refl

pub returns-in-None : goal.returns-in-None
returns-in-None c = λ types told.
    let l = c.in-None.ensures.lookup in
    taken_past types c.args.ty (omega (arith, l.3, c.index.ensures.value, told.many))
