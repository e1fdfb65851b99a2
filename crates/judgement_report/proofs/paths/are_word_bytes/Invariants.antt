use Rattle.std.proofs.Common.{◌≡◌, drop}
use Rattle.judgement_report.specs.Paths.{are_word_bytes}
use Rattle.judgement_report.proofs.paths.are_word_bytes.Given as goal

-- the result for the rest is that for all
abbrev pub invariant-loop-byte : goal.invariant-loop-byte
invariant-loop-byte l = are_word_bytes (drop l.byte-index l.bytes) ≡ are_word_bytes l.bytes
