use Rattle.std.proofs.Common.{arith, refl}
use Rattle.module_context.proofs.Absent.{known_flag, absent_flag, none_composed}
use Rattle.typing_layout.specs.judged.Flags.{Constructible}
use Rattle.function_interface.proofs.flags.is_constructible.Goals as goal

pub returns-in-Some : goal.returns-in-Some
returns-in-Some c = λ types told.
    let l = c.in-Some.ensures.lookup in
    known_flag types c.args.infos.now c.args.ty c.index.result 128 c.in-Some.info.now Constructible c.contains.result told.told l.3.0 l.1 c.index.ensures.value (c.contains.ensures tt) refl

pub returns-in-None : goal.returns-in-None
returns-in-None c = λ types told.
    let l = c.in-None.ensures.lookup in
    absent_flag _ (λ has. none_composed types c.args.ty (omega (arith, l.3, c.index.ensures.value, told.many)) has)
