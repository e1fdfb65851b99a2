use Rattle.std.proofs.Common.{◌≡◌, ◌≤◌, ◌-◌, length, take}
use Rattle.std.specs.Io.KnownBytes.{Appends}
use Rattle.check_ports.specs.Sink.{has_failed, writer_of}
use Rattle.check_ports.proofs.Runs.{WritesOn}
use Rattle.check_ports.proofs.sink.Sink.write_all.Given as goal

abbrev pub invariant-loop-written : goal.invariant-loop-written
invariant-loop-written g l = record {
  within : l.written ≤ length l.bytes;
  kept : has_failed l.self ≡ has_failed l.initial.self;
  received : Appends (g.W.Write.contents (writer_of l.initial.self)) (g.W.Write.contents (writer_of l.self)) (take l.written l.bytes);
  run : WritesOn g.W.WriteCall.writes (writer_of l.initial.self) (writer_of l.self) l.bytes l.written;
}

abbrev pub decreases-loop-written : goal.decreases-loop-written
decreases-loop-written g l = length l.bytes - l.written
