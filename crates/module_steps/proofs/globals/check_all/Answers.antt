use Rattle.std.proofs.Common.{◌≡◌, sym, subst, arith}
use Rattle.module_globals.proofs.Refuted.{fault_refutes}
use Rattle.ir_items.specs.found.GlobalView.{global_view}
use Rattle.module_constants.proofs.Reported.{accepted_more, many_viewed}
use Rattle.module_constants.specs.Known.{module_in}
use Rattle.module_steps.proofs.Known.{is_there}
use Rattle.spec_interface.specs.judged.Globals.{GlobalOK}
use Rattle.module_steps.proofs.globals.check_all.Goals as goal

pub loop-place-init : goal.loop-place-init
loop-place-init c = λ handle lt. absurd (omega (arith, lt))

pub validate_global_var-requires-clause-there : goal.validate_global_var-requires-clause-there
validate_global_var-requires-clause-there c =
    let many = many_viewed global_view c.args.context.now.«module».now.global_variables in
    is_there (module_in c.args.context.now) c.requires.handles c.at-global.result (omega (arith, many, c.at-global.ensures, c.loop-place-test.true, c.len-place-end.ensures.value))

pub returns-in-Err : goal.returns-in-Err
returns-in-Err c =
    let many = many_viewed global_view c.args.context.now.«module».now.global_variables in
    record {
      first = record {
        within = omega (arith, many, c.at-global.ensures, c.loop-place-test.true, c.len-place-end.ensures.value);
        before = λ other lt. c.loop-place.invariant other (omega (arith, lt, c.at-global.ensures));
        fails = fault_refutes c.args.flags c.args.context.now.capabilities (module_in c.args.context.now) c.at-global.result c.in-Err.error c.in-Err.ensures;
      };
      fault = c.in-Err.ensures;
    }

pub loop-place-preserved : goal.loop-place-preserved
loop-place-preserved c =
    accepted_more (GlobalOK c.args.flags c.args.context.now.capabilities (module_in c.args.context.now)) c.loop-place.place c.at-global.result c.loop-place.invariant c.at-global.ensures c.in-Ok.ensures

pub returns : goal.returns
returns c =
    let many = many_viewed global_view c.args.context.now.«module».now.global_variables in
    λ handle lt. c.loop-place.invariant handle (omega (arith, lt, many, c.loop-place-test.false, c.len-place-end.ensures.value))
