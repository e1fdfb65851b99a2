use Rattle.std.proofs.Common.{refl, sym, ◌∙◌, true≢false}
use Rattle.ir_items.specs.found.View.{function_view}
use Rattle.function_statement_checks.proofs.calls.check_call.Goals as goal

pub returns-in-Some-arguments_fault : goal.returns-in-Some-arguments_fault
returns-in-Some-arguments_fault g c = record {
  same = refl;
  callee = function_view c.in-Some.callee.now;
  found = sym c.in-Some.ensures;
  wrong = c.in-Some-arguments_fault.ensures.found c.args.function c.args.answered;
}

pub returns-then-is_answered : goal.returns-then-is_answered
returns-then-is_answered g c = λ there. record {
  callee = function_view c.in-Some.callee.now;
  called = sym c.in-Some.ensures;
  passed = λ i e a is declared. c.in_default-arguments_fault.ensures.none i e a is declared;
  answered = c.is_answered.ensures.0 c.if-is_answered.true;
}

pub returns : goal.returns
returns g c = record {
  same = refl;
  callee = function_view c.in-Some.callee.now;
  found = sym c.in-Some.ensures;
  wrong = (refl, λ ok. true≢false (sym (c.is_answered.ensures.1 ok) ∙ c.if-is_answered.false));
}
