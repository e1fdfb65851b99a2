-- The property holds of each argument before this index.
use Rattle.std.proofs.Common.{ℕ, ◌<◌}
use Rattle.typing_summaries.specs.Parts.{Stands}
use Rattle.typing_summaries.proofs.joined.all_stand.Given as goal

abbrev pub invariant-loop-number : goal.invariant-loop-number
invariant-loop-number l = (n : ℕ) → n < l.number → Stands l.marks l.parts n
