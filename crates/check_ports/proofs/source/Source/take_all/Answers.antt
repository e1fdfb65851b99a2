use Rattle.std.proofs.Common.{drop, true≢false, sym, ◌∙◌, arith, rules}
use Rattle.std.proofs.KnownBytes.{Consumes-kept}
use Rattle.std.proofs.lemmas.List.{length-take}
use Rattle.check_ports.proofs.Calls.{Consumes-call, length-call, unmarked}
use Rattle.check_ports.proofs.Runs.{reads_none, reads_more, reads_again, reads_full, reads_end, reads_fail, reads_too_often, reads_lost}
use Rattle.check_ports.proofs.source.Source.take_all.Goals as goal
use Rattle.check_ports.proofs.source.Source.take_all.Goals.{in-Ok+in_ok-extend_from_slice-in-Ok, in-Err+else-not-is_interrupted}

pub returns-in_err-extend_from_slice-in-Ok-clause-memory :
    goal.returns-in_err-extend_from_slice-in-Ok-clause-memory
returns-in_err-extend_from_slice-in-Ok-clause-memory g c memory =
    let more = length-call c.loop-call.taken.items c.read.new.buf (drop c.min-room.result c.loop-call.chunk) c.in-Ok.count c.in-Ok.ensures.bound.0 in
    record {
      given = _;
      consumed = Consumes-call _ _ _ _ _ (drop c.min-room.result c.loop-call.chunk) _ c.in-Ok.ensures.bound.0 c.loop-call.invariant.consumed c.in-Ok.ensures.bytes.0;
      enough = omega (arith, more, c.in-Ok.count-test.1);
      within = omega (arith, more, c.read.auto.buf, length-take c.min-room.result c.loop-call.chunk, c.in-Ok.ensures.bound.0, c.loop-call.invariant.within);
    }

pub loop-call-preserved : goal.loop-call-preserved
loop-call-preserved g c = elim c.match-read.branch [
  | in-Ok+in_ok-extend_from_slice-in-Ok w ↦
      let more = length-call c.loop-call.taken.items c.read.new.buf (drop c.min-room.result c.loop-call.chunk) w.in-Ok.count w.in-Ok.ensures.bound.0 in
      rw w.taken-is (rw w.in_ok-extend_from_slice-in-Ok.ensures.items record {
        consumed = Consumes-call _ _ _ _ _ _ _ w.in-Ok.ensures.bound.0 c.loop-call.invariant.consumed w.in-Ok.ensures.bytes.0;
        within = omega (arith, more, c.read.auto.buf, length-take c.min-room.result c.loop-call.chunk, w.in-Ok.ensures.bound.0);
        kept = search rules;
        progress = λ clear.
            let before = c.loop-call.invariant.progress (unmarked _ _ _ w.in-Ok.ensures.mark clear).0 in
            omega (arith, more, before, w.in-Ok.count-test.1);
        run = reads_more _ _ _ _ _ _ _ _ _ _ c.loop-call.invariant.run w.in-Ok.ensures.bound.0 (omega (arith, w.in-Ok.count-test.1))
            (omega (arith, c.read.auto.buf, length-take c.min-room.result c.loop-call.chunk, c.loop-call.invariant.within)) w.in-Ok.ensures.call;
      })
  | in-Err+else-not-is_interrupted w ↦
      rw w.taken-is record {
        consumed = Consumes-kept _ _ _ _ c.loop-call.invariant.consumed w.in-Err.ensures.bytes;
        within = c.loop-call.invariant.within;
        kept = search rules;
        progress = λ clear. absurd (true≢false (unmarked _ _ _ w.in-Err.ensures.mark clear).1);
        run = reads_again _ _ _ _ _ _ _ _ _ c.loop-call.invariant.run (w.is_interrupted.ensures.0 w.if-not-is_interrupted.false)
            (omega (arith, c.read.auto.buf, length-take c.min-room.result c.loop-call.chunk))
            (omega (arith, c.read.auto.buf, length-take c.min-room.result c.loop-call.chunk, c.loop-call.invariant.within)) w.in-Err.ensures.call;
      }
]

pub loop-call-init : goal.loop-call-init
loop-call-init g c = rw c.new-taken.ensures.items record {
  consumed = search rules;
  within = search rules;
  kept = search rules;
  progress = search rules;
  run = reads_none _ _ _;
}

pub returns-then-room-eq0-clause-ok_calls : goal.returns-then-room-eq0-clause-ok_calls
returns-then-room-eq0-clause-ok_calls g c =
    reads_full _ _ _ _ _ _ _ c.loop-call.invariant.run c.loop-call-test.true (omega (arith, c.loop-call.invariant.within))

pub returns-in-Ok-eq0-clause-ok_calls : goal.returns-in-Ok-eq0-clause-ok_calls
returns-in-Ok-eq0-clause-ok_calls g c =
    reads_end _ _ _ _ _ _ _ _ _ _ c.loop-call.invariant.run c.loop-call-test.true c.in-Ok-eq0.field-0-test (omega (arith, c.read.auto.buf, length-take c.min-room.result c.loop-call.chunk)) (omega (arith, c.read.auto.buf, length-take c.min-room.result c.loop-call.chunk, c.loop-call.invariant.within)) c.in-Ok-eq0.ensures.call

pub returns-in_err-extend_from_slice-in-Ok-clause-memory_calls :
    goal.returns-in_err-extend_from_slice-in-Ok-clause-memory_calls
returns-in_err-extend_from_slice-in-Ok-clause-memory_calls g c memory =
    reads_lost _ _ _ _ _ _ _ _ _ _ c.loop-call.invariant.run c.loop-call-test.true (omega (arith, c.in-Ok.count-test.1)) (omega (arith, c.read.auto.buf, length-take c.min-room.result c.loop-call.chunk)) (omega (arith, c.read.auto.buf, length-take c.min-room.result c.loop-call.chunk, c.loop-call.invariant.within)) c.in-Ok.ensures.call

pub returns-then-not-is_interrupted-clause-read_calls : goal.returns-then-not-is_interrupted-clause-read_calls
returns-then-not-is_interrupted-clause-read_calls g c failed =
    reads_fail _ _ _ _ _ _ _ _ _ _ c.loop-call.invariant.run c.loop-call-test.true (λ kind. true≢false (sym (c.is_interrupted.ensures.1 kind) ∙ c.if-not-is_interrupted.true))
    (omega (arith, c.read.auto.buf, length-take c.min-room.result c.loop-call.chunk)) (omega (arith, c.read.auto.buf, length-take c.min-room.result c.loop-call.chunk, c.loop-call.invariant.within)) c.in-Err.ensures.call

pub returns-clause-read_calls : goal.returns-clause-read_calls
returns-clause-read_calls g c failed = reads_too_often _ _ _ _ _ _ _ c.loop-call.invariant.run (omega arith)
