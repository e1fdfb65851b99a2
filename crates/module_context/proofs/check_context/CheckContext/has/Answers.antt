use Rattle.std.proofs.Common.{arith}
use Rattle.module_context.proofs.Absent.{known_flag, absent_flag, none_stored, none_sized, none_composed}
use Rattle.module_context.specs.OperandView.{types_in}
use Rattle.typing_layout.specs.judged.Flags.{Data, Sized, Constructible}
use Rattle.module_context.proofs.check_context.CheckContext.has.Goals as goal

pub returns-in-Some-clause-data : goal.returns-in-Some-clause-data
returns-in-Some-clause-data c = λ is.
    let l = c.in-Some.ensures.lookup in
    known_flag (types_in c.args.self.now) c.args.self.now.infos.now c.args.ty c.index.result c.args.flag.0 c.in-Some.info.now Data c.contains.result c.requires.told l.3.0 l.1 c.index.ensures.value (c.contains.ensures tt) is

pub returns-in-None-clause-data : goal.returns-in-None-clause-data
returns-in-None-clause-data c = λ is.
    let l = c.in-None.ensures.lookup in
    absent_flag _ (λ has. none_stored (types_in c.args.self.now) c.args.ty (omega (arith, l.3, c.index.ensures.value, c.requires.many)) has)

pub returns-in-Some-clause-sized : goal.returns-in-Some-clause-sized
returns-in-Some-clause-sized c = λ is.
    let l = c.in-Some.ensures.lookup in
    known_flag (types_in c.args.self.now) c.args.self.now.infos.now c.args.ty c.index.result c.args.flag.0 c.in-Some.info.now Sized c.contains.result c.requires.told l.3.0 l.1 c.index.ensures.value (c.contains.ensures tt) is

pub returns-in-None-clause-sized : goal.returns-in-None-clause-sized
returns-in-None-clause-sized c = λ is.
    let l = c.in-None.ensures.lookup in
    absent_flag _ (λ has. none_sized (types_in c.args.self.now) c.args.ty (omega (arith, l.3, c.index.ensures.value, c.requires.many)) has)

pub returns-in-Some-clause-constructible : goal.returns-in-Some-clause-constructible
returns-in-Some-clause-constructible c = λ is.
    let l = c.in-Some.ensures.lookup in
    known_flag (types_in c.args.self.now) c.args.self.now.infos.now c.args.ty c.index.result c.args.flag.0 c.in-Some.info.now Constructible c.contains.result c.requires.told l.3.0 l.1 c.index.ensures.value (c.contains.ensures tt) is

pub returns-in-None-clause-constructible : goal.returns-in-None-clause-constructible
returns-in-None-clause-constructible c = λ is.
    let l = c.in-None.ensures.lookup in
    absent_flag _ (λ has. none_composed (types_in c.args.self.now) c.args.ty (omega (arith, l.3, c.index.ensures.value, c.requires.many)) has)
