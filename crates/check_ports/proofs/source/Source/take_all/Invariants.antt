use Rattle.std.proofs.Common.{◌≡◌, ◌≤◌, true, false, length}
use Rattle.std.specs.Io.KnownBytes.{Consumes}
use Rattle.check_ports.specs.Source.{has_failed, reader_of}
use Rattle.check_ports.proofs.Runs.{ReadsOn}
use Rattle.check_ports.proofs.source.Source.take_all.Given as goal

-- `progress`: as long as no call failed, each call returned a byte
abbrev pub invariant-loop-call : goal.invariant-loop-call
invariant-loop-call g l = record {
  consumed : Consumes (g.R.Read.remaining (reader_of l.initial.self)) (g.R.Read.remaining (reader_of l.self)) l.taken.items;
  within : length l.taken.items ≤ l.most;
  kept : has_failed l.initial.self ≡ true → has_failed l.self ≡ true;
  progress : has_failed l.self ≡ false → l.call ≤ length l.taken.items;
  run : ReadsOn g.R.ReadCall.reads (reader_of l.initial.self) (reader_of l.self) l.most l.call l.taken.items;
}
