-- The text so far, with the words of the rest, is the text of all.
use Rattle.std.proofs.Common.{◌≡◌, ◌++◌, drop, string_bytes}
use Rattle.judgement_report.specs.Lines.{repeat_words}
use Rattle.judgement_report.proofs.listing_lines.write_repeats.Given as goal

abbrev pub invariant-loop-repeat : goal.invariant-loop-repeat
invariant-loop-repeat l = string_bytes l.text ++ repeat_words (drop l.repeat-index l.repeats) ≡ string_bytes l.fn.text ++ repeat_words l.repeats
