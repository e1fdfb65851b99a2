use Rattle.std.proofs.Common.{rules}
use Rattle.std.proofs.KnownBytes.{Appends-trans}
use Rattle.std.proofs.Math.Seq.{take-add}
use Rattle.std.proofs.lemmas.List.{take_rest}
use Rattle.check_ports.proofs.Runs.{writes_none, writes_more, writes_all, writes_fail, on_err}
use Rattle.check_ports.proofs.sink.Sink.write_all.Goals as goal

pub loop-written-init : goal.loop-written-init
loop-written-init g c = record {
  within = search rules;
  kept = search rules;
  received = search rules;
  run = writes_none _ _ _;
}

pub loop-written-preserved : goal.loop-written-preserved
loop-written-preserved g c = record {
  within = search rules;
  kept = search rules;
  received =
      let both = Appends-trans _ _ _ _ _ c.loop-written.invariant.received c.in_ok-written.ensures.ok in
      rw take-add (rw take_rest at both);
  run = writes_more _ _ _ _ _ _ _ c.loop-written.invariant.run c.in_ok-written.ensures.count.0 (rw take_rest at c.in_ok-written.ensures.ok_call);
}

pub returns-in_err-written-clause-err_calls : goal.returns-in_err-written-clause-err_calls
returns-in_err-written-clause-err_calls g c =
    let call = c.in_err-written.ensures.err_call in
    on_err _ _ (writes_fail _ _ _ _ _ _ call.0 c.loop-written.invariant.run (rw take_rest at call.1) call.2 call.3)

pub returns-clause-ok_calls : goal.returns-clause-ok_calls
returns-clause-ok_calls g c = writes_all _ _ _ _ _ c.loop-written.invariant.run c.loop-written-test.false
